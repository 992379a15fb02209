use Rattle.std.proofs.Common.{◌≢◌, [], ◌∙◌, arith}
use Rattle.std.proofs.lemmas.List.Elements.{All-nil, All-same}
use Rattle.mf_open.specs.declared.key.Key.{Key}
use Rattle.mf_open.proofs.tests.keys_come_out_by_value_and_mark.Goals as goal

pub enter-requires-3-clause-is_new : goal.enter-requires-3-clause-is_new
enter-requires-3-clause-is_new g c =
    c.enter-2.ensures.others 7 (omega arith)
    (c.enter.ensures.others 7 (omega arith)
    (All-same (λ (k : Key). k.state ≢ 7) _ [] (c.in_ok-reserve.ensures.keys ∙ c.new-keys.ensures) (All-nil (λ (k : Key). k.state ≢ 7))))
