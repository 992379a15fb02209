-- What is said of problems agrees with their form.
use Rattle.std.proofs.Common.{◌≡◌, ℕ, Bool, true, false, ◌&&◌, ◌||◌, Option, Some, None, is_none, List, [], ◌∷◌, ◌++◌, map, refl, ap, sym, ◌∙◌, subst, inl, inr, codes}
use Rattle.std.specs.List.{list_any, AllByRecursion}
use Rattle.std.specs.Option.{unwrap_or}
use Rattle.std.specs.Str.{bytes_eq}
use Rattle.mf_model.proofs.Choices.{and_true, if_true}
use Rattle.mf_model.specs.declared.token.Span.{Span}
use Rattle.mf_model.specs.declared.tree.Tree.{Tree}
use Rattle.mf_model.specs.declared.tree.Tree.TheViews.{out-Tree}
use Rattle.mf_model.specs.declared.tree.Tree.TheOpen.{Tree-F}
use Rattle.mf_model.specs.declared.form.Typed.{Typed}
use Rattle.mf_model.specs.declared.form.RawCond.{RawCond}
use Rattle.mf_model.specs.declared.form.RawCond.TheVariants as c
use Rattle.mf_model.specs.declared.form.RawValue.{RawValue}
use Rattle.mf_model.specs.declared.form.RawMetric.{RawMetric}
use Rattle.mf_model.specs.declared.form.Problem.{Problem}
use Rattle.mf_model.specs.Forms.{IsList, IsWord, Headed, IsHeaded, HasHead, NoSection, OneSection, IsSection, IsTitle}
use Rattle.mf_reader.specs.declared.inits.Starts.{Starts}
use Rattle.mf_reader.specs.declared.problem.ProblemParts.{ProblemParts}
use Rattle.mf_reader.specs.declared.keys.ProblemKey.{ProblemKey}
use Rattle.mf_reader.specs.declared.keys.ProblemKey.TheVariants.{Domain, Requirements, Objects, Init, Goal, Metric, LeftOut, Other}
use Rattle.mf_reader.specs.Faces.{has_text}
use Rattle.mf_reader.specs.Goals.{goal_at, metric_at}
use Rattle.mf_reader.specs.Inits.{init_of}
use Rattle.mf_reader.specs.Keys.{problem_key, problem_key_of}
use Rattle.mf_reader.specs.Laws.{IsReadingOf}
use Rattle.mf_reader.specs.Problems.{no_sections, may_stand, with_section, section_by, section_layer, section_of, sections_from, layer_headed, is_headed, stands, is_whole, empty_init, made_problem, no_problem, problem_behind, problem_layer, problem_of}
use Rattle.mf_reader.specs.Requirements.{requirements_of}
use Rattle.mf_reader.specs.Said.{Said, said, bad, both}
use Rattle.mf_reader.specs.Seen.{seen}
use Rattle.mf_reader.specs.Titles.{one_word, title_of}
use Rattle.mf_reader.specs.Typed.{typed_names}
use Rattle.mf_reader.specs.GrammarTerms.{AreObjects}
use Rattle.mf_reader.specs.GrammarConditions.{IsCond}
use Rattle.mf_reader.specs.GrammarSections.{AreMetric}
use Rattle.mf_reader.specs.GrammarFiles.{IsHeadedBy, problem_sections, AreFacts, IsMetric, IsProblem}
use Rattle.mf_reader.proofs.Readings.{some_fault, none_of_both, both_said, mapped_said}
use Rattle.mf_reader.proofs.Choices.{by_test}
use Rattle.mf_reader.proofs.WordReadings.{true_false, text_sound, text_complete}
use Rattle.mf_reader.proofs.TypedReadings.{objects_read}
use Rattle.mf_reader.proofs.TitleReadings.{title_reads, word_sound, word_complete, requirements_sound, requirements_complete}
use Rattle.mf_reader.proofs.InitReadings.{StartsAre, init_reads, GoalIs, goal_sound, goal_complete, metric_sound, metric_complete}
use Rattle.mf_reader.proofs.SlotReadings.{is_free, skipped, OfFound}
use Rattle.mf_reader.proofs.SectionReadings.{lacks, listed_first, filling, ProblemWord, problem_word, problem_key_at}
use Rattle.mf_reader.proofs.DomainReadings.{AllRequired, flag, In, flag_free, free_flag, flag_same, held, given, required, given_flag, stood, stands_in}

-- Slots

abbrev Titled : Unit {0} → List Tree → Type 0
Titled u ts = (name : List ℕ) × IsTitle name ts

record ProblemFilled (old fin : ProblemParts) (ts : List Tree) : Type 0 where
  known : AllByRecursion (IsHeadedBy problem_sections) ts
  domain : In (codes ":domain") Titled (flag old.domain) (flag fin.domain) ts
  requirements : In (codes ":requirements") AllRequired (flag old.requirements) (flag fin.requirements) ts
  objects : In (codes ":objects") AreObjects (old.objects) (fin.objects) ts
  init : In (codes ":init") StartsAre (old.init) (fin.init) ts
  goal : In (codes ":goal") GoalIs (old.goal) (fin.goal) ts
  metric : In (codes ":metric") AreMetric (old.metric) (fin.metric) ts

abbrev Step : ProblemParts → ProblemParts → Tree → List Tree → Said ProblemParts → Type 0
Step old fin t ts x = x.faults ≡ [] → ProblemFilled x.value fin ts → ProblemFilled old fin (t ∷ ts)

domain_step : (old fin : ProblemParts) (a : Headed) (t : Tree) (ts : List Tree) → IsHeaded (codes ":domain") a t → may_stand Domain old ≡ true → Step old fin t ts (with_section Domain a.span a.parts old)
domain_step old fin a t ts is free e rest = record {
  known = ((codes ":domain", (a, is), refl), rest.known);
  requirements = inl (lacks (codes ":requirements") (codes ":domain") a t refl is, rest.requirements);
  objects = inl (lacks (codes ":objects") (codes ":domain") a t refl is, rest.objects);
  init = inl (lacks (codes ":init") (codes ":domain") a t refl is, rest.init);
  goal = inl (lacks (codes ":goal") (codes ":domain") a t refl is, rest.goal);
  metric = inl (lacks (codes ":metric") (codes ":domain") a t refl is, rest.metric);
  domain = inr (tt, record { free = flag_free old.domain free; is = a; at = is; of = ((one_word a.span a.parts).value, word_sound a.span a.parts e) }, rest.domain);
}

requirements_step : (old fin : ProblemParts) (a : Headed) (t : Tree) (ts : List Tree) → IsHeaded (codes ":requirements") a t → may_stand Requirements old ≡ true → Step old fin t ts (with_section Requirements a.span a.parts old)
requirements_step old fin a t ts is free e rest = record {
  known = ((codes ":requirements", (a, is), refl), rest.known);
  domain = inl (lacks (codes ":domain") (codes ":requirements") a t refl is, rest.domain);
  objects = inl (lacks (codes ":objects") (codes ":requirements") a t refl is, rest.objects);
  init = inl (lacks (codes ":init") (codes ":requirements") a t refl is, rest.init);
  goal = inl (lacks (codes ":goal") (codes ":requirements") a t refl is, rest.goal);
  metric = inl (lacks (codes ":metric") (codes ":requirements") a t refl is, rest.metric);
  requirements = inr (tt, record { free = flag_free old.requirements free; is = a; at = is; of = requirements_sound a.parts e }, rest.requirements);
}

objects_step : (old fin : ProblemParts) (a : Headed) (t : Tree) (ts : List Tree) → IsHeaded (codes ":objects") a t → may_stand Objects old ≡ true → Step old fin t ts (with_section Objects a.span a.parts old)
objects_step old fin a t ts is free e rest = record {
  known = ((codes ":objects", (a, is), refl), rest.known);
  domain = inl (lacks (codes ":domain") (codes ":objects") a t refl is, rest.domain);
  requirements = inl (lacks (codes ":requirements") (codes ":objects") a t refl is, rest.requirements);
  init = inl (lacks (codes ":init") (codes ":objects") a t refl is, rest.init);
  goal = inl (lacks (codes ":goal") (codes ":objects") a t refl is, rest.goal);
  metric = inl (lacks (codes ":metric") (codes ":objects") a t refl is, rest.metric);
  objects = inr ((typed_names (map seen a.parts)).value, record { free = is_free old.objects free; is = a; at = is; of = objects_read.sound a.parts e }, rest.objects);
}

init_step : (old fin : ProblemParts) (a : Headed) (t : Tree) (ts : List Tree) → IsHeaded (codes ":init") a t → may_stand Init old ≡ true → Step old fin t ts (with_section Init a.span a.parts old)
init_step old fin a t ts is free e rest = record {
  known = ((codes ":init", (a, is), refl), rest.known);
  domain = inl (lacks (codes ":domain") (codes ":init") a t refl is, rest.domain);
  requirements = inl (lacks (codes ":requirements") (codes ":init") a t refl is, rest.requirements);
  objects = inl (lacks (codes ":objects") (codes ":init") a t refl is, rest.objects);
  goal = inl (lacks (codes ":goal") (codes ":init") a t refl is, rest.goal);
  metric = inl (lacks (codes ":metric") (codes ":init") a t refl is, rest.metric);
  init = inr ((init_of a.parts).value, record { free = is_free old.init free; is = a; at = is; of = init_reads.sound a.parts e }, rest.init);
}

goal_step : (old fin : ProblemParts) (a : Headed) (t : Tree) (ts : List Tree) → IsHeaded (codes ":goal") a t → may_stand Goal old ≡ true → Step old fin t ts (with_section Goal a.span a.parts old)
goal_step old fin a t ts is free e rest = record {
  known = ((codes ":goal", (a, is), refl), rest.known);
  domain = inl (lacks (codes ":domain") (codes ":goal") a t refl is, rest.domain);
  requirements = inl (lacks (codes ":requirements") (codes ":goal") a t refl is, rest.requirements);
  objects = inl (lacks (codes ":objects") (codes ":goal") a t refl is, rest.objects);
  init = inl (lacks (codes ":init") (codes ":goal") a t refl is, rest.init);
  metric = inl (lacks (codes ":metric") (codes ":goal") a t refl is, rest.metric);
  goal = inr ((goal_at a.span a.parts).value, record { free = is_free old.goal free; is = a; at = is; of = goal_sound a.span a.parts e }, rest.goal);
}

metric_step : (old fin : ProblemParts) (a : Headed) (t : Tree) (ts : List Tree) → IsHeaded (codes ":metric") a t → may_stand Metric old ≡ true → Step old fin t ts (with_section Metric a.span a.parts old)
metric_step old fin a t ts is free e rest = record {
  known = ((codes ":metric", (a, is), refl), rest.known);
  domain = inl (lacks (codes ":domain") (codes ":metric") a t refl is, rest.domain);
  requirements = inl (lacks (codes ":requirements") (codes ":metric") a t refl is, rest.requirements);
  objects = inl (lacks (codes ":objects") (codes ":metric") a t refl is, rest.objects);
  init = inl (lacks (codes ":init") (codes ":metric") a t refl is, rest.init);
  goal = inl (lacks (codes ":goal") (codes ":metric") a t refl is, rest.goal);
  metric = inr ((metric_at a.span a.parts).value, record { free = is_free old.metric free; is = a; at = is; of = metric_sound a.span a.parts e }, rest.metric);
}

section_step : (key : ProblemKey) (old fin : ProblemParts) (head : Tree) (items : List Tree) (span : Span) (t : Tree) (ts : List Tree) → ProblemWord key head → IsList (head ∷ items) span t → Step old fin t ts (section_by key span items old)
section_step Domain old fin head items span t ts word list = by_test (Step old fin t ts) (may_stand Domain old) (with_section Domain span items old) (bad span old) (λ free. domain_step old fin (record { parts = items; span = span }) t ts (head, list, word) free) (λ free e rest. some_fault _ _ e)
section_step Requirements old fin head items span t ts word list = by_test (Step old fin t ts) (may_stand Requirements old) (with_section Requirements span items old) (bad span old) (λ free. requirements_step old fin (record { parts = items; span = span }) t ts (head, list, word) free) (λ free e rest. some_fault _ _ e)
section_step Objects old fin head items span t ts word list = by_test (Step old fin t ts) (may_stand Objects old) (with_section Objects span items old) (bad span old) (λ free. objects_step old fin (record { parts = items; span = span }) t ts (head, list, word) free) (λ free e rest. some_fault _ _ e)
section_step Init old fin head items span t ts word list = by_test (Step old fin t ts) (may_stand Init old) (with_section Init span items old) (bad span old) (λ free. init_step old fin (record { parts = items; span = span }) t ts (head, list, word) free) (λ free e rest. some_fault _ _ e)
section_step Goal old fin head items span t ts word list = by_test (Step old fin t ts) (may_stand Goal old) (with_section Goal span items old) (bad span old) (λ free. goal_step old fin (record { parts = items; span = span }) t ts (head, list, word) free) (λ free e rest. some_fault _ _ e)
section_step Metric old fin head items span t ts word list = by_test (Step old fin t ts) (may_stand Metric old) (with_section Metric span items old) (bad span old) (λ free. metric_step old fin (record { parts = items; span = span }) t ts (head, list, word) free) (λ free e rest. some_fault _ _ e)
section_step LeftOut old fin head items span t ts word list = λ e rest. some_fault _ _ e
section_step Other old fin head items span t ts word list = λ e rest. some_fault _ _ e

layer_step : (old fin : ProblemParts) (t : Tree) (ts : List Tree) (x : Tree-F Tree) → out-Tree t ≡ x → Step old fin t ts (section_layer x old)
layer_step old fin t ts (Tree-F.Leaf kind text span) is = λ e rest. some_fault _ _ e
layer_step old fin t ts (Tree-F.Branch [] span) is = λ e rest. some_fault _ _ e
layer_step old fin t ts (Tree-F.Branch (head ∷ items) span) is = section_step (problem_key_of (seen head).face) old fin head items span t ts (problem_word head) is

sections_sound : (old : ProblemParts) (ts : List Tree) → (sections_from old ts).faults ≡ [] → ProblemFilled old (sections_from old ts).value ts
sections_sound old [] e = record { known = tt; domain = refl; requirements = refl; objects = refl; init = refl; goal = refl; metric = refl }
sections_sound old (t ∷ ts) e =
    let h = none_of_both (section_of t old).faults (sections_from (section_of t old).value ts).faults e in
    layer_step old _ t ts (out-Tree t) refl h.0 (sections_sound (section_of t old).value ts h.1)

-- The other way

section_read : (key : ProblemKey) (text : List ℕ) (old next : ProblemParts) (a : Headed) (t : Tree) (ts : List Tree) → IsHeaded text a t → problem_key text ≡ key → section_by key a.span a.parts old ≡ said next → sections_from old (t ∷ ts) ≡ sections_from next ts
section_read key text old next a t ts is e reading =
    ap (λ (x : Said ProblemParts). both (λ section rest. rest) x (sections_from x.value ts))
    (ap (λ (x : Tree-F Tree). section_layer x old) is.1 ∙ ap (λ (h : ProblemKey). section_by h a.span a.parts old) (problem_key_at text is.0 is.2 ∙ e) ∙ reading)

domain_key : problem_key (codes ":domain") ≡ Domain
unfolding problem_key
domain_key = refl

requirements_key : problem_key (codes ":requirements") ≡ Requirements
unfolding problem_key
requirements_key = refl

objects_key : problem_key (codes ":objects") ≡ Objects
unfolding problem_key
objects_key = refl

init_key : problem_key (codes ":init") ≡ Init
unfolding problem_key
init_key = refl

goal_key : problem_key (codes ":goal") ≡ Goal
unfolding problem_key
goal_key = refl

metric_key : problem_key (codes ":metric") ≡ Metric
unfolding problem_key
metric_key = refl

abbrev Rest : ProblemParts → List Tree → Type 0
Rest fin ts = (next : ProblemParts) → ProblemFilled next fin ts → sections_from next ts ≡ said fin

domain_section : (old fin : ProblemParts) (a : Headed) (t : Tree) (ts : List Tree) → IsHeaded (codes ":domain") a t → ProblemFilled old fin (t ∷ ts) → Rest fin ts → sections_from old (t ∷ ts) ≡ said fin
domain_section old fin a t ts is h rest =
    let f = filling (codes ":domain") Titled (flag old.domain) (flag fin.domain) a t ts is h.domain in
    let next : ProblemParts = record old { domain = true } in
    section_read Domain (codes ":domain") old next a t ts is domain_key
    (if_true (may_stand Domain old) (with_section Domain a.span a.parts old) (bad a.span old) (free_flag old.domain f.1)
    ∙ mapped_said (λ name. record old { domain = true }) (one_word a.span a.parts) (f.2.0) (word_complete a.span a.parts f.2.0 f.2.1))
    ∙ rest next (record {
      known = h.known.1;
      domain = f.3;
      requirements = skipped (IsHeaded (codes ":requirements")) (λ v b. AllRequired v b.parts) (flag old.requirements) (flag fin.requirements) t ts (lacks (codes ":requirements") (codes ":domain") a t refl is) h.requirements;
      objects = skipped (IsHeaded (codes ":objects")) (λ v b. AreObjects v b.parts) (old.objects) (fin.objects) t ts (lacks (codes ":objects") (codes ":domain") a t refl is) h.objects;
      init = skipped (IsHeaded (codes ":init")) (λ v b. StartsAre v b.parts) (old.init) (fin.init) t ts (lacks (codes ":init") (codes ":domain") a t refl is) h.init;
      goal = skipped (IsHeaded (codes ":goal")) (λ v b. GoalIs v b.parts) (old.goal) (fin.goal) t ts (lacks (codes ":goal") (codes ":domain") a t refl is) h.goal;
      metric = skipped (IsHeaded (codes ":metric")) (λ v b. AreMetric v b.parts) (old.metric) (fin.metric) t ts (lacks (codes ":metric") (codes ":domain") a t refl is) h.metric;
    })

requirements_section : (old fin : ProblemParts) (a : Headed) (t : Tree) (ts : List Tree) → IsHeaded (codes ":requirements") a t → ProblemFilled old fin (t ∷ ts) → Rest fin ts → sections_from old (t ∷ ts) ≡ said fin
requirements_section old fin a t ts is h rest =
    let f = filling (codes ":requirements") AllRequired (flag old.requirements) (flag fin.requirements) a t ts is h.requirements in
    let next : ProblemParts = record old { requirements = true } in
    section_read Requirements (codes ":requirements") old next a t ts is requirements_key
    (if_true (may_stand Requirements old) (with_section Requirements a.span a.parts old) (bad a.span old) (free_flag old.requirements f.1)
    ∙ mapped_said (λ known. record old { requirements = true }) (requirements_of a.parts) (f.0) (requirements_complete a.parts f.2))
    ∙ rest next (record {
      known = h.known.1;
      requirements = f.3;
      domain = skipped (IsHeaded (codes ":domain")) (λ v b. Titled v b.parts) (flag old.domain) (flag fin.domain) t ts (lacks (codes ":domain") (codes ":requirements") a t refl is) h.domain;
      objects = skipped (IsHeaded (codes ":objects")) (λ v b. AreObjects v b.parts) (old.objects) (fin.objects) t ts (lacks (codes ":objects") (codes ":requirements") a t refl is) h.objects;
      init = skipped (IsHeaded (codes ":init")) (λ v b. StartsAre v b.parts) (old.init) (fin.init) t ts (lacks (codes ":init") (codes ":requirements") a t refl is) h.init;
      goal = skipped (IsHeaded (codes ":goal")) (λ v b. GoalIs v b.parts) (old.goal) (fin.goal) t ts (lacks (codes ":goal") (codes ":requirements") a t refl is) h.goal;
      metric = skipped (IsHeaded (codes ":metric")) (λ v b. AreMetric v b.parts) (old.metric) (fin.metric) t ts (lacks (codes ":metric") (codes ":requirements") a t refl is) h.metric;
    })

objects_section : (old fin : ProblemParts) (a : Headed) (t : Tree) (ts : List Tree) → IsHeaded (codes ":objects") a t → ProblemFilled old fin (t ∷ ts) → Rest fin ts → sections_from old (t ∷ ts) ≡ said fin
objects_section old fin a t ts is h rest =
    let f = filling (codes ":objects") AreObjects (old.objects) (fin.objects) a t ts is h.objects in
    let next : ProblemParts = record old { objects = Some f.0 } in
    section_read Objects (codes ":objects") old next a t ts is objects_key
    (if_true (may_stand Objects old) (with_section Objects a.span a.parts old) (bad a.span old) (ap is_none f.1)
    ∙ mapped_said (λ objects. record old { objects = Some objects }) (typed_names (map seen a.parts)) (f.0) (objects_read.complete a.parts f.0 f.2))
    ∙ rest next (record {
      known = h.known.1;
      objects = f.3;
      domain = skipped (IsHeaded (codes ":domain")) (λ v b. Titled v b.parts) (flag old.domain) (flag fin.domain) t ts (lacks (codes ":domain") (codes ":objects") a t refl is) h.domain;
      requirements = skipped (IsHeaded (codes ":requirements")) (λ v b. AllRequired v b.parts) (flag old.requirements) (flag fin.requirements) t ts (lacks (codes ":requirements") (codes ":objects") a t refl is) h.requirements;
      init = skipped (IsHeaded (codes ":init")) (λ v b. StartsAre v b.parts) (old.init) (fin.init) t ts (lacks (codes ":init") (codes ":objects") a t refl is) h.init;
      goal = skipped (IsHeaded (codes ":goal")) (λ v b. GoalIs v b.parts) (old.goal) (fin.goal) t ts (lacks (codes ":goal") (codes ":objects") a t refl is) h.goal;
      metric = skipped (IsHeaded (codes ":metric")) (λ v b. AreMetric v b.parts) (old.metric) (fin.metric) t ts (lacks (codes ":metric") (codes ":objects") a t refl is) h.metric;
    })

init_section : (old fin : ProblemParts) (a : Headed) (t : Tree) (ts : List Tree) → IsHeaded (codes ":init") a t → ProblemFilled old fin (t ∷ ts) → Rest fin ts → sections_from old (t ∷ ts) ≡ said fin
init_section old fin a t ts is h rest =
    let f = filling (codes ":init") StartsAre (old.init) (fin.init) a t ts is h.init in
    let next : ProblemParts = record old { init = Some f.0 } in
    section_read Init (codes ":init") old next a t ts is init_key
    (if_true (may_stand Init old) (with_section Init a.span a.parts old) (bad a.span old) (ap is_none f.1)
    ∙ mapped_said (λ init. record old { init = Some init }) (init_of a.parts) (f.0) (init_reads.complete a.parts f.0 f.2))
    ∙ rest next (record {
      known = h.known.1;
      init = f.3;
      domain = skipped (IsHeaded (codes ":domain")) (λ v b. Titled v b.parts) (flag old.domain) (flag fin.domain) t ts (lacks (codes ":domain") (codes ":init") a t refl is) h.domain;
      requirements = skipped (IsHeaded (codes ":requirements")) (λ v b. AllRequired v b.parts) (flag old.requirements) (flag fin.requirements) t ts (lacks (codes ":requirements") (codes ":init") a t refl is) h.requirements;
      objects = skipped (IsHeaded (codes ":objects")) (λ v b. AreObjects v b.parts) (old.objects) (fin.objects) t ts (lacks (codes ":objects") (codes ":init") a t refl is) h.objects;
      goal = skipped (IsHeaded (codes ":goal")) (λ v b. GoalIs v b.parts) (old.goal) (fin.goal) t ts (lacks (codes ":goal") (codes ":init") a t refl is) h.goal;
      metric = skipped (IsHeaded (codes ":metric")) (λ v b. AreMetric v b.parts) (old.metric) (fin.metric) t ts (lacks (codes ":metric") (codes ":init") a t refl is) h.metric;
    })

goal_section : (old fin : ProblemParts) (a : Headed) (t : Tree) (ts : List Tree) → IsHeaded (codes ":goal") a t → ProblemFilled old fin (t ∷ ts) → Rest fin ts → sections_from old (t ∷ ts) ≡ said fin
goal_section old fin a t ts is h rest =
    let f = filling (codes ":goal") GoalIs (old.goal) (fin.goal) a t ts is h.goal in
    let next : ProblemParts = record old { goal = Some f.0 } in
    section_read Goal (codes ":goal") old next a t ts is goal_key
    (if_true (may_stand Goal old) (with_section Goal a.span a.parts old) (bad a.span old) (ap is_none f.1)
    ∙ mapped_said (λ goal. record old { goal = Some goal }) (goal_at a.span a.parts) (f.0) (goal_complete a.span a.parts f.0 f.2))
    ∙ rest next (record {
      known = h.known.1;
      goal = f.3;
      domain = skipped (IsHeaded (codes ":domain")) (λ v b. Titled v b.parts) (flag old.domain) (flag fin.domain) t ts (lacks (codes ":domain") (codes ":goal") a t refl is) h.domain;
      requirements = skipped (IsHeaded (codes ":requirements")) (λ v b. AllRequired v b.parts) (flag old.requirements) (flag fin.requirements) t ts (lacks (codes ":requirements") (codes ":goal") a t refl is) h.requirements;
      objects = skipped (IsHeaded (codes ":objects")) (λ v b. AreObjects v b.parts) (old.objects) (fin.objects) t ts (lacks (codes ":objects") (codes ":goal") a t refl is) h.objects;
      init = skipped (IsHeaded (codes ":init")) (λ v b. StartsAre v b.parts) (old.init) (fin.init) t ts (lacks (codes ":init") (codes ":goal") a t refl is) h.init;
      metric = skipped (IsHeaded (codes ":metric")) (λ v b. AreMetric v b.parts) (old.metric) (fin.metric) t ts (lacks (codes ":metric") (codes ":goal") a t refl is) h.metric;
    })

metric_section : (old fin : ProblemParts) (a : Headed) (t : Tree) (ts : List Tree) → IsHeaded (codes ":metric") a t → ProblemFilled old fin (t ∷ ts) → Rest fin ts → sections_from old (t ∷ ts) ≡ said fin
metric_section old fin a t ts is h rest =
    let f = filling (codes ":metric") AreMetric (old.metric) (fin.metric) a t ts is h.metric in
    let next : ProblemParts = record old { metric = Some f.0 } in
    section_read Metric (codes ":metric") old next a t ts is metric_key
    (if_true (may_stand Metric old) (with_section Metric a.span a.parts old) (bad a.span old) (ap is_none f.1)
    ∙ mapped_said (λ metric. record old { metric = Some metric }) (metric_at a.span a.parts) (f.0) (metric_complete a.span a.parts f.0 f.2))
    ∙ rest next (record {
      known = h.known.1;
      metric = f.3;
      domain = skipped (IsHeaded (codes ":domain")) (λ v b. Titled v b.parts) (flag old.domain) (flag fin.domain) t ts (lacks (codes ":domain") (codes ":metric") a t refl is) h.domain;
      requirements = skipped (IsHeaded (codes ":requirements")) (λ v b. AllRequired v b.parts) (flag old.requirements) (flag fin.requirements) t ts (lacks (codes ":requirements") (codes ":metric") a t refl is) h.requirements;
      objects = skipped (IsHeaded (codes ":objects")) (λ v b. AreObjects v b.parts) (old.objects) (fin.objects) t ts (lacks (codes ":objects") (codes ":metric") a t refl is) h.objects;
      init = skipped (IsHeaded (codes ":init")) (λ v b. StartsAre v b.parts) (old.init) (fin.init) t ts (lacks (codes ":init") (codes ":metric") a t refl is) h.init;
      goal = skipped (IsHeaded (codes ":goal")) (λ v b. GoalIs v b.parts) (old.goal) (fin.goal) t ts (lacks (codes ":goal") (codes ":metric") a t refl is) h.goal;
    })

parts_same : (old fin : ProblemParts) → fin.domain ≡ old.domain → fin.requirements ≡ old.requirements → fin.objects ≡ old.objects → fin.init ≡ old.init → fin.goal ≡ old.goal → fin.metric ≡ old.metric → old ≡ fin
parts_same old fin a b d e f g = λ i. record { domain = sym a i; requirements = sym b i; objects = sym d i; init = sym e i; goal = sym f i; metric = sym g i }

sections_complete : (ts : List Tree) (old fin : ProblemParts) → ProblemFilled old fin ts → sections_from old ts ≡ said fin
sections_complete [] old fin h =
    ap said (parts_same old fin (flag_same fin.domain old.domain h.domain) (flag_same fin.requirements old.requirements h.requirements) h.objects h.init h.goal h.metric)
sections_complete (t ∷ ts) old fin h =
    by_key h.known.0.0 h.known.0.1.0 h.known.0.1.1 h.known.0.2 (sections_complete ts)
  where
    under : (text key : List ℕ) (a : Headed) → text ≡ key → IsHeaded text a t → IsHeaded key a t
    under text key a e is = subst (λ (v : List ℕ). IsHeaded v a t) e is

    by_key : (text : List ℕ) (a : Headed) → IsHeaded text a t → list_any (λ w. bytes_eq text w) problem_sections ≡ true → ((next last : ProblemParts) → ProblemFilled next last ts → sections_from next ts ≡ said last) → sections_from old (t ∷ ts) ≡ said fin
    by_key text a is e rest = elim (listed_first text (codes ":domain") (codes ":requirements" ∷ codes ":objects" ∷ codes ":init" ∷ codes ":goal" ∷ codes ":metric" ∷ []) e) [
      | inl k ↦ domain_section old fin a t ts (under text (codes ":domain") a k is) h (λ next. rest next fin)
      | inr e1 ↦ elim (listed_first text (codes ":requirements") (codes ":objects" ∷ codes ":init" ∷ codes ":goal" ∷ codes ":metric" ∷ []) e1) [
        | inl k ↦ requirements_section old fin a t ts (under text (codes ":requirements") a k is) h (λ next. rest next fin)
        | inr e2 ↦ elim (listed_first text (codes ":objects") (codes ":init" ∷ codes ":goal" ∷ codes ":metric" ∷ []) e2) [
          | inl k ↦ objects_section old fin a t ts (under text (codes ":objects") a k is) h (λ next. rest next fin)
          | inr e3 ↦ elim (listed_first text (codes ":init") (codes ":goal" ∷ codes ":metric" ∷ []) e3) [
            | inl k ↦ init_section old fin a t ts (under text (codes ":init") a k is) h (λ next. rest next fin)
            | inr e4 ↦ elim (listed_first text (codes ":goal") (codes ":metric" ∷ []) e4) [
              | inl k ↦ goal_section old fin a t ts (under text (codes ":goal") a k is) h (λ next. rest next fin)
              | inr e5 ↦ elim (listed_first text (codes ":metric") [] e5) [
                | inl k ↦ metric_section old fin a t ts (under text (codes ":metric") a k is) h (λ next. rest next fin)
                | inr e6 ↦ true_false (sym e6)
              ]
            ]
          ]
        ]
      ]
    ]

-- Sections that must stand

headed_layer : (key : List ℕ) (t : Tree) (x : Tree-F Tree) → out-Tree t ≡ x → layer_headed key x ≡ true → HasHead key t
headed_layer key t (Tree-F.Leaf kind text span) is e = true_false (sym e)
headed_layer key t (Tree-F.Branch [] span) is e = true_false (sym e)
headed_layer key t (Tree-F.Branch (head ∷ parts) span) is e = (record { parts = parts; span = span }, (head, is, text_sound key head e))

headed_is : (key : List ℕ) (a : Headed) (t : Tree) → IsHeaded key a t → is_headed key t ≡ true
headed_is key a t is = ap (layer_headed key) is.1 ∙ text_complete key is.0 is.2

none_stands : {B : Type 0} (key : List ℕ) (ts : List Tree) → NoSection key ts → stands key ts ≡ true → B
none_stands key [] none e = true_false (sym e)
none_stands key (t ∷ ts) none e = none_by key t ts none.0 (is_headed key t) refl e (none_stands key ts none.1)
  where
    none_by : {B : Type 0} (key : List ℕ) (t : Tree) (ts : List Tree) → ¬ HasHead key t → (b : Bool) → is_headed key t ≡ b → (b || stands key ts) ≡ true → (stands key ts ≡ true → B) → B
    none_by key t ts lacks true is h later = absurd (lacks (headed_layer key t (out-Tree t) refl is))
    none_by key t ts lacks false is h later = later h

or_true : (a b : Bool) → b ≡ true → (a || b) ≡ true
or_true true b e = refl
or_true false b e = e

one_stands : (key : List ℕ) (a : Headed) (before : List Tree) (t : Tree) (after : List Tree) → IsHeaded key a t → stands key (before ++ t ∷ after) ≡ true
one_stands key a [] t after is = ap (λ b. b || stands key after) (headed_is key a t is)
one_stands key a (x ∷ before) t after is = or_true (is_headed key x) (stands key (before ++ t ∷ after)) (one_stands key a before t after is)

section_stands : (key : List ℕ) (a : Headed) (ts : List Tree) → OneSection key a ts → stands key ts ≡ true
section_stands key a ts h = ap (stands key) h.split ∙ one_stands key a h.before h.section h.after h.is

-- the section of a slot, where it must stand
abbrev Must : {V : Type 0} → List ℕ → (V → List Tree → Type 0) → Option V → List Tree → Type 0
Must {V = V} key Of new ts = (a : Headed) × OneSection key a ts × ((v : V) × (new ≡ Some v) × Of v a.parts)

must_by : {V : Type 0} (key : List ℕ) (Of : V → List Tree → Type 0) (new : Option V) (ts : List Tree) → stands key ts ≡ true → (found : Option Headed) → IsSection key found ts → OfFound (λ v (h : Headed). Of v h.parts) new found → Must key Of new ts
must_by key Of new ts whole None h of = none_stands key ts h whole
must_by key Of (Some v) ts whole (Some a) h of = (a, h, (v, refl, of))
must_by key Of None ts whole (Some a) h of = absurd of

must : {V : Type 0} (key : List ℕ) (Of : V → List Tree → Type 0) (new : Option V) (ts : List Tree) → stands key ts ≡ true → In key Of None new ts → Must key Of new ts
must key Of new ts whole h = let s = stood key Of new ts h in must_by key Of new ts whole s.0 s.1 s.2

-- Files

facts_of : (o : Option Starts) (found : Option Headed) → OfFound (λ (s : Starts) (h : Headed). StartsAre s h.parts) o found → AreFacts (unwrap_or o empty_init).atoms (unwrap_or o empty_init).values found
facts_of None None h = (refl, refl)
facts_of (Some v) (Some a) h = h
facts_of None (Some a) h = absurd h
facts_of (Some v) None h = absurd h

metric_of : (o : Option RawMetric) (found : Option Headed) → OfFound (λ (m : RawMetric) (h : Headed). AreMetric m h.parts) o found → IsMetric o found
metric_of None None h = refl
metric_of (Some v) (Some a) h = (v, refl, h)
metric_of None (Some a) h = absurd h
metric_of (Some v) None h = absurd h

goal_same : (o : Option RawCond) (v w : RawCond) → o ≡ Some v → unwrap_or o w ≡ v
goal_same o v w e = ap (λ (x : Option RawCond). unwrap_or x w) e

both_true : (a b : Bool) → (a && b) ≡ true → (a ≡ true) × (b ≡ true)
both_true true b e = (refl, e)
both_true false b e = true_false (sym e)

behind_sound : (head title : Tree) (sections : List Tree) (span : Span) (t : Tree) → IsList (head ∷ title ∷ sections) span t → IsWord (codes "define") head → is_whole sections ≡ true → (problem_behind span title sections).faults ≡ [] → IsProblem (problem_behind span title sections).value t
behind_sound head title sections span t list word whole e =
    let none = none_of_both (title_of (codes "problem") title).faults (sections_from no_sections sections).faults e in
    let h = sections_sound no_sections sections none.1 in
    let fin = (sections_from no_sections sections).value in
    let stand = both_true (stands (codes ":domain") sections) (stands (codes ":goal") sections) whole in
    let d = must (codes ":domain") Titled (flag fin.domain) sections stand.0 h.domain in
    let g = must (codes ":goal") GoalIs fin.goal sections stand.1 h.goal in
    let goal = g.2 in
    let title_is = d.2 in
    let r = stood (codes ":requirements") AllRequired (flag fin.requirements) sections h.requirements in
    let ob = stood (codes ":objects") AreObjects fin.objects sections h.objects in
    let st = stood (codes ":init") StartsAre fin.init sections h.init in
    let me = stood (codes ":metric") AreMetric fin.metric sections h.metric in
    record {
      title = title;
      sections = sections;
      span = span;
      list = (head, list, word);
      named = (title_reads (codes "problem")).sound title none.0;
      known = h.known;
      domain_section = d.0;
      domain_stands = d.1;
      domain_name = title_is.2.0;
      domain = title_is.2.1;
      requirements_section = r.0;
      requirements_stand = r.1;
      requirements = required fin.requirements r.0 r.2;
      objects_section = ob.0;
      objects_stand = ob.1;
      objects = held AreObjects fin.objects ob.0 ob.2;
      init_section = st.0;
      init_stands = st.1;
      facts = facts_of fin.init st.0 st.2;
      goal_section = g.0;
      goal_stands = g.1;
      goal_tree = goal.2.0;
      goal_alone = goal.2.1;
      goal = subst (λ (v : RawCond). IsCond v goal.2.0) (sym (goal_same fin.goal goal.0 (c.And [] span) goal.1)) goal.2.2;
      metric_section = me.0;
      metric_stands = me.1;
      is_metric = metric_of fin.metric me.0 me.2;
    }

problem_sound : (t : Tree) (x : Tree-F Tree) → out-Tree t ≡ x → (problem_layer x).faults ≡ [] → IsProblem (problem_layer x).value t
problem_sound t (Tree-F.Leaf kind text span) is = λ e. some_fault _ _ e
problem_sound t (Tree-F.Branch [] span) is = λ e. some_fault _ _ e
problem_sound t (Tree-F.Branch (head ∷ []) span) is = λ e. some_fault _ _ e
problem_sound t (Tree-F.Branch (head ∷ title ∷ sections) span) is =
    by_test (λ (x : Said Problem). x.faults ≡ [] → IsProblem x.value t) (has_text (codes "define") (seen head).face && is_whole sections) (problem_behind span title sections) (no_problem span)
    (λ holds e. let h = both_true (has_text (codes "define") (seen head).face) (is_whole sections) holds in
    behind_sound head title sections span t is (text_sound (codes "define") head h.0) h.1 e)
    (λ holds e. some_fault _ _ e)

given_facts : (atoms : List RawCond) (values : List RawValue) (found : Option Headed) → AreFacts atoms values found → (o : Option Starts) × OfFound (λ (s : Starts) (h : Headed). StartsAre s h.parts) o found × ((unwrap_or o empty_init).atoms ≡ atoms) × ((unwrap_or o empty_init).values ≡ values)
given_facts atoms values None h = (None, tt, sym h.0, sym h.1)
given_facts atoms values (Some a) h = (Some (record { atoms = atoms; values = values }), h, refl, refl)

given_metric : (metric : Option RawMetric) (found : Option Headed) → IsMetric metric found → OfFound (λ (m : RawMetric) (h : Headed). AreMetric m h.parts) metric found
given_metric metric None h = subst (λ (o : Option RawMetric). OfFound (λ (m : RawMetric) (h : Headed). AreMetric m h.parts) o None) (sym h) tt
given_metric metric (Some a) h = subst (λ (o : Option RawMetric). OfFound (λ (m : RawMetric) (h : Headed). AreMetric m h.parts) o (Some a)) (sym h.1) h.2

same_problem : (p : Problem) (objects : List Typed) (atoms : List RawCond) (values : List RawValue) → objects ≡ p.objects → atoms ≡ p.atoms → values ≡ p.values → record { name = p.name; objects = objects; atoms = atoms; values = values; goal = p.goal; metric = p.metric } ≡ p
same_problem p objects atoms values a b d = λ i. record { name = p.name; objects = a i; atoms = b i; values = d i; goal = p.goal; metric = p.metric }

problem_complete : (p : Problem) (t : Tree) → IsProblem p t → problem_of t ≡ said p
problem_complete p t h =
    let r = given_flag h.requirements_section h.requirements in
    let ob = given AreObjects p.objects h.objects_section h.objects in
    let st = given_facts p.atoms p.values h.init_section h.facts in
    let fin : ProblemParts = record { domain = true; requirements = r.0; objects = ob.0; init = st.0; goal = Some p.goal; metric = p.metric } in
    ap problem_layer h.list.1
    ∙ if_true (has_text (codes "define") (seen h.list.0).face && is_whole h.sections) (problem_behind h.span h.title h.sections) (no_problem h.span)
    (and_true (has_text (codes "define") (seen h.list.0).face) (is_whole h.sections) (text_complete (codes "define") h.list.0 h.list.2)
    (and_true (stands (codes ":domain") h.sections) (stands (codes ":goal") h.sections) (section_stands (codes ":domain") h.domain_section h.sections h.domain_stands) (section_stands (codes ":goal") h.goal_section h.sections h.goal_stands)))
    ∙ both_said (made_problem h.span) (title_of (codes "problem") h.title) (sections_from no_sections h.sections) p.name fin ((title_reads (codes "problem")).complete h.title p.name h.named)
    (sections_complete h.sections no_sections fin (record {
      known = h.known;
      domain = stands_in (codes ":domain") Titled (Some tt) h.sections (Some h.domain_section) h.domain_stands (h.domain_name, h.domain);
      requirements = stands_in (codes ":requirements") AllRequired (flag r.0) h.sections h.requirements_section h.requirements_stand r.1;
      objects = stands_in (codes ":objects") AreObjects ob.0 h.sections h.objects_section h.objects_stand ob.1;
      init = stands_in (codes ":init") StartsAre st.0 h.sections h.init_section h.init_stands st.1;
      goal = stands_in (codes ":goal") GoalIs (Some p.goal) h.sections (Some h.goal_section) h.goal_stands (h.goal_tree, h.goal_alone, h.goal);
      metric = stands_in (codes ":metric") AreMetric p.metric h.sections h.metric_section h.metric_stands (given_metric p.metric h.metric_section h.is_metric);
    }))
    ∙ ap said (same_problem p (unwrap_or ob.0 []) (unwrap_or st.0 empty_init).atoms (unwrap_or st.0 empty_init).values ob.2 st.2 st.3)

pub problem_reads : IsReadingOf problem_of IsProblem
problem_reads = record { sound = λ t e. problem_sound t (out-Tree t) refl e; complete = λ t p h. problem_complete p t h }
