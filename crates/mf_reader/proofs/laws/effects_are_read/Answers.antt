use Rattle.mf_reader.proofs.EffectReadings.{effect_reads, inner_reads}
use Rattle.mf_reader.proofs.LawForms.{read_at}
use Rattle.mf_reader.specs.GrammarEffects.{IsEffect, IsInnerEffect}
use Rattle.mf_reader.proofs.laws.effects_are_read.Goals as goal

pub returns-clause-effects : goal.returns-clause-effects
returns-clause-effects c = read_at (λ s. s.effect) IsEffect effect_reads

pub returns-clause-inner : goal.returns-clause-inner
returns-clause-inner c = read_at (λ s. s.inner) IsInnerEffect inner_reads
