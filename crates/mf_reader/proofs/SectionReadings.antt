-- Sections by their head words.
use Rattle.std.proofs.Common.{◌≡◌, ℕ, Bool, true, false, ◌||◌, ◌⊎◌, Option, Some, None, List, ◌∷◌, refl, ap, sym, ◌∙◌, subst, inl, inr, codes}
use Rattle.std.specs.List.{list_any}
use Rattle.std.specs.Str.{bytes_eq}
use Rattle.mf_model.proofs.Choices.{same_text}
use Rattle.mf_model.specs.declared.token.Kind.{Kind}
use Rattle.mf_model.specs.declared.token.Span.{Span}
use Rattle.mf_model.specs.declared.tree.Tree.{Tree}
use Rattle.mf_model.specs.Forms.{IsLeaf, IsWord, Headed, IsHeaded, HasHead}
use Rattle.mf_reader.specs.declared.keys.DomainKey.{DomainKey}
use Rattle.mf_reader.specs.declared.keys.DomainKey.TheVariants as domain
use Rattle.mf_reader.specs.declared.keys.ProblemKey.{ProblemKey}
use Rattle.mf_reader.specs.declared.keys.ProblemKey.TheVariants as problem
use Rattle.mf_reader.specs.Keys.{is_left_out, domain_key, domain_key_of, problem_key, problem_key_of}
use Rattle.mf_reader.specs.Seen.{seen}
use Rattle.mf_reader.proofs.Branches.{by_cases, one_list}
use Rattle.mf_reader.proofs.ExprSound.{first_same, rest_same}
use Rattle.mf_reader.proofs.SlotReadings.{Filled}
use Rattle.mf_reader.proofs.Choices.{by_test}
use Rattle.mf_reader.proofs.WordReadings.{true_false, text_same, at_text, face_leaf, face_branch}

-- A list has one head

pub word_text : (one other : List ℕ) (t : Tree) → IsWord one t → IsWord other t → one ≡ other
word_text one other t a b = let e = sym a.2 ∙ b.2 in cc

pub head_text : (one other : List ℕ) (a b : Headed) (t : Tree) → IsHeaded one a t → IsHeaded other b t → one ≡ other
head_text one other a b t x y =
    let same = first_same x.0 y.0 a.parts b.parts (one_list (x.0 ∷ a.parts) (y.0 ∷ b.parts) a.span b.span t x.1 y.1) in
    word_text one other y.0 (subst (IsWord one) same x.2) y.2

pub lacks : (key text : List ℕ) (a : Headed) (t : Tree) → bytes_eq text key ≡ false → IsHeaded text a t → ¬ HasHead key t
lacks key text a t differ is = λ h.
    true_false (sym (ap (λ (v : List ℕ). bytes_eq v key) (head_text text key a h.0 t is h.1) ∙ text_same key) ∙ differ)

pub headed_same : (one other : List ℕ) (a b : Headed) (t : Tree) → IsHeaded one a t → IsHeaded other b t → a.parts ≡ b.parts
headed_same one other a b t x y = rest_same x.0 y.0 a.parts b.parts (one_list (x.0 ∷ a.parts) (y.0 ∷ b.parts) a.span b.span t x.1 y.1)

pub listed_first : (text key : List ℕ) (keys : List (List ℕ)) → list_any (λ w. bytes_eq text w) (key ∷ keys) ≡ true → (text ≡ key) ⊎ (list_any (λ w. bytes_eq text w) keys ≡ true)
listed_first text key keys e = by (bytes_eq text key) refl e
  where
    by : (b : Bool) → bytes_eq text key ≡ b → (b || list_any (λ w. bytes_eq text w) keys) ≡ true → (text ≡ key) ⊎ (list_any (λ w. bytes_eq text w) keys ≡ true)
    by true is h = inl (same_text text key is)
    by false is h = inr h

-- what fills the slot of a section
abbrev pub Filling : {V : Type 0} → List ℕ → (V → List Tree → Type 0) → Option V → Option V → List Tree → List Tree → Type 0
Filling {V = V} key Of old new items ts = (v : V) × (old ≡ None) × Of v items × Filled (IsHeaded key) (λ v h. Of v h.parts) (Some v) new ts

pub filling : {V : Type 0} (key : List ℕ) (Of : V → List Tree → Type 0) (old new : Option V) (a : Headed) (t : Tree) (ts : List Tree) → IsHeaded key a t → Filled (IsHeaded key) (λ v h. Of v h.parts) old new (t ∷ ts) → Filling key Of old new a.parts ts
filling key Of old new a t ts is h = elim h [
  | inl skip ↦ absurd (skip.0 (a, is))
  | inr fill ↦ (fill.0, fill.1.free, subst (Of fill.0) (headed_same key key fill.1.is a t fill.1.at is) fill.1.of, fill.2)
]

-- Keywords of domains

abbrev DomainText : DomainKey → List ℕ → Type 0
DomainText domain.Requirements text = text ≡ codes ":requirements"
DomainText domain.Types text = text ≡ codes ":types"
DomainText domain.Constants text = text ≡ codes ":constants"
DomainText domain.Predicates text = text ≡ codes ":predicates"
DomainText domain.Functions text = text ≡ codes ":functions"
DomainText domain.Action text = text ≡ codes ":action"
DomainText domain.LeftOut text = Unit {0}
DomainText domain.Other text = Unit {0}

domain_text : (text : List ℕ) → DomainText (domain_key text) text
unfolding domain_key
domain_text text =
    by_test (λ h. DomainText h text) (bytes_eq text (codes ":requirements")) _ _ (λ e. same_text text (codes ":requirements") e) (λ _.
    by_test (λ h. DomainText h text) (bytes_eq text (codes ":types")) _ _ (λ e. same_text text (codes ":types") e) (λ _.
    by_test (λ h. DomainText h text) (bytes_eq text (codes ":constants")) _ _ (λ e. same_text text (codes ":constants") e) (λ _.
    by_test (λ h. DomainText h text) (bytes_eq text (codes ":predicates")) _ _ (λ e. same_text text (codes ":predicates") e) (λ _.
    by_test (λ h. DomainText h text) (bytes_eq text (codes ":functions")) _ _ (λ e. same_text text (codes ":functions") e) (λ _.
    by_test (λ h. DomainText h text) (bytes_eq text (codes ":action")) _ _ (λ e. same_text text (codes ":action") e) (λ _.
    by_test (λ h. DomainText h text) (is_left_out text) domain.LeftOut domain.Other (λ e. tt) (λ _. tt)))))))

abbrev pub DomainWord : DomainKey → Tree → Type 0
DomainWord domain.Requirements t = IsWord (codes ":requirements") t
DomainWord domain.Types t = IsWord (codes ":types") t
DomainWord domain.Constants t = IsWord (codes ":constants") t
DomainWord domain.Predicates t = IsWord (codes ":predicates") t
DomainWord domain.Functions t = IsWord (codes ":functions") t
DomainWord domain.Action t = IsWord (codes ":action") t
DomainWord domain.LeftOut t = Unit {0}
DomainWord domain.Other t = Unit {0}

domain_leaf : (key : DomainKey) (kind : Kind) (text : List ℕ) (span : Span) (t : Tree) → IsLeaf kind text span t → DomainText key text → DomainWord key t
domain_leaf domain.Requirements kind text span t leaf e = at_text kind text (codes ":requirements") span t leaf e
domain_leaf domain.Types kind text span t leaf e = at_text kind text (codes ":types") span t leaf e
domain_leaf domain.Constants kind text span t leaf e = at_text kind text (codes ":constants") span t leaf e
domain_leaf domain.Predicates kind text span t leaf e = at_text kind text (codes ":predicates") span t leaf e
domain_leaf domain.Functions kind text span t leaf e = at_text kind text (codes ":functions") span t leaf e
domain_leaf domain.Action kind text span t leaf e = at_text kind text (codes ":action") span t leaf e
domain_leaf domain.LeftOut kind text span t leaf e = tt
domain_leaf domain.Other kind text span t leaf e = tt

pub domain_word : (t : Tree) → DomainWord (domain_key_of (seen t).face) t
domain_word = by_cases (λ t. DomainWord (domain_key_of (seen t).face) t)
    (λ kind text span t leaf. subst (λ (h : DomainKey). DomainWord h t) (ap domain_key_of (sym (face_leaf kind text span t leaf))) (domain_leaf (domain_key text) kind text span t leaf (domain_text text)))
    (λ items span t list. subst (λ (h : DomainKey). DomainWord h t) (ap domain_key_of (sym (face_branch items span t list))) tt)

pub domain_key_at : (text : List ℕ) (t : Tree) → IsWord text t → domain_key_of (seen t).face ≡ domain_key text
domain_key_at text t h = ap domain_key_of (face_leaf h.0 text h.1 t h.2)

-- Keywords of problems

abbrev ProblemText : ProblemKey → List ℕ → Type 0
ProblemText problem.Domain text = text ≡ codes ":domain"
ProblemText problem.Requirements text = text ≡ codes ":requirements"
ProblemText problem.Objects text = text ≡ codes ":objects"
ProblemText problem.Init text = text ≡ codes ":init"
ProblemText problem.Goal text = text ≡ codes ":goal"
ProblemText problem.Metric text = text ≡ codes ":metric"
ProblemText problem.LeftOut text = Unit {0}
ProblemText problem.Other text = Unit {0}

problem_text : (text : List ℕ) → ProblemText (problem_key text) text
unfolding problem_key
problem_text text =
    by_test (λ h. ProblemText h text) (bytes_eq text (codes ":domain")) _ _ (λ e. same_text text (codes ":domain") e) (λ _.
    by_test (λ h. ProblemText h text) (bytes_eq text (codes ":requirements")) _ _ (λ e. same_text text (codes ":requirements") e) (λ _.
    by_test (λ h. ProblemText h text) (bytes_eq text (codes ":objects")) _ _ (λ e. same_text text (codes ":objects") e) (λ _.
    by_test (λ h. ProblemText h text) (bytes_eq text (codes ":init")) _ _ (λ e. same_text text (codes ":init") e) (λ _.
    by_test (λ h. ProblemText h text) (bytes_eq text (codes ":goal")) _ _ (λ e. same_text text (codes ":goal") e) (λ _.
    by_test (λ h. ProblemText h text) (bytes_eq text (codes ":metric")) _ _ (λ e. same_text text (codes ":metric") e) (λ _.
    by_test (λ h. ProblemText h text) (is_left_out text) problem.LeftOut problem.Other (λ e. tt) (λ _. tt)))))))

abbrev pub ProblemWord : ProblemKey → Tree → Type 0
ProblemWord problem.Domain t = IsWord (codes ":domain") t
ProblemWord problem.Requirements t = IsWord (codes ":requirements") t
ProblemWord problem.Objects t = IsWord (codes ":objects") t
ProblemWord problem.Init t = IsWord (codes ":init") t
ProblemWord problem.Goal t = IsWord (codes ":goal") t
ProblemWord problem.Metric t = IsWord (codes ":metric") t
ProblemWord problem.LeftOut t = Unit {0}
ProblemWord problem.Other t = Unit {0}

problem_leaf : (key : ProblemKey) (kind : Kind) (text : List ℕ) (span : Span) (t : Tree) → IsLeaf kind text span t → ProblemText key text → ProblemWord key t
problem_leaf problem.Domain kind text span t leaf e = at_text kind text (codes ":domain") span t leaf e
problem_leaf problem.Requirements kind text span t leaf e = at_text kind text (codes ":requirements") span t leaf e
problem_leaf problem.Objects kind text span t leaf e = at_text kind text (codes ":objects") span t leaf e
problem_leaf problem.Init kind text span t leaf e = at_text kind text (codes ":init") span t leaf e
problem_leaf problem.Goal kind text span t leaf e = at_text kind text (codes ":goal") span t leaf e
problem_leaf problem.Metric kind text span t leaf e = at_text kind text (codes ":metric") span t leaf e
problem_leaf problem.LeftOut kind text span t leaf e = tt
problem_leaf problem.Other kind text span t leaf e = tt

pub problem_word : (t : Tree) → ProblemWord (problem_key_of (seen t).face) t
problem_word = by_cases (λ t. ProblemWord (problem_key_of (seen t).face) t)
    (λ kind text span t leaf. subst (λ (h : ProblemKey). ProblemWord h t) (ap problem_key_of (sym (face_leaf kind text span t leaf))) (problem_leaf (problem_key text) kind text span t leaf (problem_text text)))
    (λ items span t list. subst (λ (h : ProblemKey). ProblemWord h t) (ap problem_key_of (sym (face_branch items span t list))) tt)

pub problem_key_at : (text : List ℕ) (t : Tree) → IsWord text t → problem_key_of (seen t).face ≡ problem_key text
problem_key_at text t h = ap problem_key_of (face_leaf h.0 text h.1 t h.2)
