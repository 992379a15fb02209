-- The grammar of domain and problem files: sections in any order.
use Rattle.std.specs.Prelude.{◌≡◌, ℕ, true, Option, Some, None, List, [], ◌∷◌, codes}
use Rattle.std.specs.List.{list_any, AllByRecursion}
use Rattle.std.specs.Str.{bytes_eq}
use Rattle.mf_model.specs.declared.token.Span.{Span}
use Rattle.mf_model.specs.declared.tree.Tree.{Tree}
use Rattle.mf_model.specs.declared.form.RawCond.{RawCond}
use Rattle.mf_model.specs.declared.form.RawValue.{RawValue}
use Rattle.mf_model.specs.declared.form.RawMetric.{RawMetric}
use Rattle.mf_model.specs.declared.form.Domain.{Domain}
use Rattle.mf_model.specs.declared.form.Problem.{Problem}
use Rattle.mf_model.specs.Forms.{HasHead, Headed, OneSection, IsSection, IsTitle, IsNamed}
use Rattle.mf_reader.specs.GrammarTerms.{IsListed, AreObjects, AreSubtypes}
use Rattle.mf_reader.specs.GrammarConditions.{IsCond}
use Rattle.mf_reader.specs.GrammarSections.{IsRequirement, ArePredicates, AreFunctions, AreActions, AreStarts, AreMetric}

-- a list whose head is one of the words
abbrev pub IsHeadedBy : List (List ℕ) → Tree → Type 0
IsHeadedBy words t = (text : List ℕ) × HasHead text t × (list_any (λ word. bytes_eq text word) words ≡ true)

-- what stands in a section; nothing where it is missing
abbrev pub Holds : {A : Type 0} → (List A → List Tree → Type 0) → List A → Option Headed → Type 0
Holds Are items None = items ≡ []
Holds Are items (Some headed) = Are items headed.parts

abbrev pub AreRequirements : Option Headed → Type 0
AreRequirements None = Unit {0}
AreRequirements (Some headed) = AllByRecursion IsRequirement headed.parts

-- Domains: (define (domain name) section*)

abbrev pub domain_sections : List (List ℕ)
domain_sections =
    codes ":requirements" ∷ codes ":types" ∷ codes ":constants" ∷ codes ":predicates" ∷ codes ":functions" ∷ codes ":action" ∷ []

pub record IsDomain (d : Domain) (t : Tree) : Type 0 where
  pub title : Tree
  pub sections : List Tree
  pub span : Span
  pub list : IsListed (codes "define") (title ∷ sections) span t
  pub named : IsNamed (codes "domain") d.name title
  pub known : AllByRecursion (IsHeadedBy domain_sections) sections
  pub requirements_section : Option Headed
  pub requirements_stand : IsSection (codes ":requirements") requirements_section sections
  pub requirements : AreRequirements requirements_section
  pub types_section : Option Headed
  pub types_stand : IsSection (codes ":types") types_section sections
  pub types : Holds AreSubtypes d.types types_section
  pub constants_section : Option Headed
  pub constants_stand : IsSection (codes ":constants") constants_section sections
  pub constants : Holds AreObjects d.constants constants_section
  pub predicates_section : Option Headed
  pub predicates_stand : IsSection (codes ":predicates") predicates_section sections
  pub predicates : Holds ArePredicates d.predicates predicates_section
  pub functions_section : Option Headed
  pub functions_stand : IsSection (codes ":functions") functions_section sections
  pub functions : Holds AreFunctions d.functions functions_section
  pub actions : AreActions d.actions sections

-- Problems: (define (problem name) section*), in which `:domain` and `:goal` must stand

abbrev pub problem_sections : List (List ℕ)
problem_sections =
    codes ":domain" ∷ codes ":requirements" ∷ codes ":objects" ∷ codes ":init" ∷ codes ":goal" ∷ codes ":metric" ∷ []

abbrev pub AreFacts : List RawCond → List RawValue → Option Headed → Type 0
AreFacts atoms values None = (atoms ≡ []) × (values ≡ [])
AreFacts atoms values (Some headed) = AreStarts atoms values headed.parts

abbrev pub IsMetric : Option RawMetric → Option Headed → Type 0
IsMetric metric None = metric ≡ None
IsMetric metric (Some headed) = (m : RawMetric) × (metric ≡ Some m) × AreMetric m headed.parts

pub record IsProblem (p : Problem) (t : Tree) : Type 0 where
  pub title : Tree
  pub sections : List Tree
  pub span : Span
  pub list : IsListed (codes "define") (title ∷ sections) span t
  pub named : IsNamed (codes "problem") p.name title
  pub known : AllByRecursion (IsHeadedBy problem_sections) sections
  pub domain_section : Headed
  pub domain_stands : OneSection (codes ":domain") domain_section sections
  pub domain_name : List ℕ
  pub domain : IsTitle domain_name domain_section.parts
  pub requirements_section : Option Headed
  pub requirements_stand : IsSection (codes ":requirements") requirements_section sections
  pub requirements : AreRequirements requirements_section
  pub objects_section : Option Headed
  pub objects_stand : IsSection (codes ":objects") objects_section sections
  pub objects : Holds AreObjects p.objects objects_section
  pub init_section : Option Headed
  pub init_stands : IsSection (codes ":init") init_section sections
  pub facts : AreFacts p.atoms p.values init_section
  pub goal_section : Headed
  pub goal_stands : OneSection (codes ":goal") goal_section sections
  pub goal_tree : Tree
  pub goal_alone : goal_section.parts ≡ goal_tree ∷ []
  pub goal : IsCond p.goal goal_tree
  pub metric_section : Option Headed
  pub metric_stands : IsSection (codes ":metric") metric_section sections
  pub is_metric : IsMetric p.metric metric_section
