use Rattle.mf_search.proofs.OpenKeys.{key_fields}
use Rattle.mf_search.proofs.KeyOrder.{key_refl, key_antisym, key_trans, key_total}
use Rattle.mf_search.proofs.keys.keys_are_ordered.Goals as goal

pub returns-clause-itself : goal.returns-clause-itself
returns-clause-itself g c a i = key_refl a i

pub returns-clause-same : goal.returns-clause-same
returns-clause-same g c a b i j h k = key_antisym a i b j h k

pub returns-clause-through : goal.returns-clause-through
returns-clause-through g c a b d i j k h l = key_trans a i b j d k h l

pub returns-clause-either : goal.returns-clause-either
returns-clause-either g c a b i j = key_total a i b j

pub returns-clause-fields : goal.returns-clause-fields
returns-clause-fields g c a b i j = key_fields a b i j
