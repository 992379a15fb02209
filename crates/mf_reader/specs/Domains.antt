-- Domains: a name, and sections in any order.
use Rattle.std.specs.Prelude.{ℕ, Bool, true, false, not, if◌then◌else◌, Some, None, is_none, List, [], ◌∷◌, ◌++◌, map, codes}
use Rattle.std.specs.Option.{unwrap_or}
use Rattle.mf_model.specs.declared.token.Span.{Span}
use Rattle.mf_model.specs.declared.tree.Tree.{Tree}
use Rattle.mf_model.specs.declared.tree.Tree.TheViews.{out-Tree}
use Rattle.mf_model.specs.declared.tree.Tree.TheOpen.{Tree-F}
use Rattle.mf_model.specs.declared.form.Domain.{Domain}
use Rattle.mf_reader.specs.declared.keys.DomainKey.{DomainKey}
use Rattle.mf_reader.specs.declared.keys.DomainKey.TheVariants.{Requirements, Types, Constants, Predicates, Functions, Action, LeftOut, Other}
use Rattle.mf_reader.specs.declared.domain.DomainParts.{DomainParts}
use Rattle.mf_reader.specs.Actions.{action_at}
use Rattle.mf_reader.specs.Faces.{has_text}
use Rattle.mf_reader.specs.Functions.{functions_of}
use Rattle.mf_reader.specs.Headers.{predicate_headers}
use Rattle.mf_reader.specs.Keys.{domain_key_of}
use Rattle.mf_reader.specs.Requirements.{requirements_of}
use Rattle.mf_reader.specs.Said.{Said, said, bad, left_out, both, mapped}
use Rattle.mf_reader.specs.Seen.{seen}
use Rattle.mf_reader.specs.Titles.{title_of}
use Rattle.mf_reader.specs.Typed.{typed_names, typed_types}

-- no section stands
abbrev pub no_sections : DomainParts
no_sections = record { requirements = false; types = None; constants = None; predicates = None; functions = None; actions = [] }

-- the section may stand: each stands once, but for actions
abbrev pub may_stand : DomainKey → DomainParts → Bool
may_stand Requirements parts = not parts.requirements
may_stand Types parts = is_none parts.types
may_stand Constants parts = is_none parts.constants
may_stand Predicates parts = is_none parts.predicates
may_stand Functions parts = is_none parts.functions
may_stand Action parts = true
may_stand LeftOut parts = true
may_stand Other parts = false

abbrev pub with_section : DomainKey → Span → List Tree → DomainParts → Said DomainParts
with_section Requirements span items parts = mapped (λ known. record parts { requirements = true }) (requirements_of items)
with_section Types span items parts = mapped (λ types. record parts { types = Some types }) (typed_types (map seen items))
with_section Constants span items parts = mapped (λ constants. record parts { constants = Some constants }) (typed_names (map seen items))
with_section Predicates span items parts = mapped (λ headers. record parts { predicates = Some headers }) (predicate_headers items)
with_section Functions span items parts = mapped (λ headers. record parts { functions = Some headers }) (functions_of items)
with_section Action span items parts = mapped (λ action. record parts { actions = parts.actions ++ action ∷ [] }) (action_at span items)
with_section LeftOut span items parts = left_out span parts
with_section Other span items parts = bad span parts

abbrev pub section_by : DomainKey → Span → List Tree → DomainParts → Said DomainParts
section_by key span items parts = if may_stand key parts then with_section key span items parts else bad span parts

abbrev pub section_layer : Tree-F Tree → DomainParts → Said DomainParts
section_layer (Tree-F.Branch (head ∷ items) span) parts = section_by (domain_key_of (seen head).face) span items parts
section_layer (Tree-F.Branch [] span) parts = bad span parts
section_layer (Tree-F.Leaf kind text span) parts = bad span parts

abbrev pub section_of : Tree → DomainParts → Said DomainParts
section_of t parts = section_layer (out-Tree t) parts

abbrev pub sections_from : DomainParts → List Tree → Said DomainParts
sections_from parts [] = said parts
sections_from parts (t ∷ ts) = both (λ section rest. rest) (section_of t parts) (sections_from (section_of t parts).value ts)

-- a missing section is empty
abbrev pub made_domain : List ℕ → DomainParts → Domain
made_domain name parts = record {
  name = name;
  types = unwrap_or parts.types [];
  constants = unwrap_or parts.constants [];
  predicates = unwrap_or parts.predicates [];
  functions = unwrap_or parts.functions [];
  actions = parts.actions;
}

abbrev pub no_domain : Span → Said Domain
no_domain span = bad span (made_domain [] no_sections)

abbrev pub domain_behind : Tree → List Tree → Said Domain
domain_behind title sections = both made_domain (title_of (codes "domain") title) (sections_from no_sections sections)

abbrev pub domain_layer : Tree-F Tree → Said Domain
domain_layer (Tree-F.Branch (head ∷ title ∷ sections) span) = if has_text (codes "define") (seen head).face then domain_behind title sections else no_domain span
domain_layer (Tree-F.Branch items span) = no_domain span
domain_layer (Tree-F.Leaf kind text span) = no_domain span

-- (define (domain W) section*)
abbrev pub domain_of : Tree → Said Domain
domain_of t = domain_layer (out-Tree t)
