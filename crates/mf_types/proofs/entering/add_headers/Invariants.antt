use Rattle.std.proofs.Common.{◌≡◌, ◌++◌, map, drop}
use Rattle.mf_types.specs.Names.{header_text, header_types, firsts}
use Rattle.mf_types.specs.Tables.{entered}
use Rattle.mf_types.proofs.entering.add_headers.Given as goal

abbrev pub invariant-loop-header : goal.invariant-loop-header
invariant-loop-header l = record {
  names : entered l.names (map header_text (drop l.header-index l.headers)) ≡ entered l.fn.names (map header_text l.headers);
  types : l.out ++ map (header_types l.types) (firsts header_text l.names (drop l.header-index l.headers)) ≡ l.fn.out ++ map (header_types l.types) (firsts header_text l.fn.names l.headers);
}
