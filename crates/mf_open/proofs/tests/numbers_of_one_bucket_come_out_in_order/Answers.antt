use Rattle.std.proofs.Common.{◌≢◌, [], ◌∙◌, arith}
use Rattle.std.proofs.lemmas.List.Elements.{All-nil, All-same}
use Rattle.mf_open.specs.declared.key.Key.{Key}
use Rattle.mf_open.proofs.tests.numbers_of_one_bucket_come_out_in_order.Goals as goal

pub enter-requires-3-clause-is_new : goal.enter-requires-3-clause-is_new
enter-requires-3-clause-is_new g c =
    c.enter-2.ensures.others 6 (omega arith)
    (c.enter.ensures.others 6 (omega arith)
    (All-same (λ (k : Key). k.state ≢ 6) _ [] (c.in_ok-reserve.ensures.keys ∙ c.new-keys.ensures) (All-nil (λ (k : Key). k.state ≢ 6))))
