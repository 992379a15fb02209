-- The faults that stand at words, types, typed lists, atoms and function terms stand in order.
use Rattle.std.proofs.Common.{ℕ, ◌<◌, ◌≤◌, Option, Some, None, List, [], ◌∷◌, ◌++◌, arith, codes}
use Rattle.mf_model.specs.declared.token.Kind.TheVariants.{Left, Right, Name, Variable, Keyword, Number, Sign, Plain}
use Rattle.mf_model.specs.declared.token.Span.{Span}
use Rattle.mf_model.specs.declared.form.Word.{Word}
use Rattle.mf_model.specs.declared.form.Typed.{Typed}
use Rattle.mf_reader.specs.declared.fault.FormFault.{FormFault}
use Rattle.mf_reader.specs.declared.fault.FormFault.TheVariants.{LeftOut, BadForm}
use Rattle.mf_reader.specs.declared.typed.Listed.{Listed}
use Rattle.mf_reader.specs.declared.typed.Listed.TheVariants.{Variables, Names, Types}
use Rattle.mf_reader.specs.Said.{Said, bad, left_out, both}
use Rattle.mf_reader.specs.Faces.{Face, Leaf, Branch, span_of, has_text, is_dash, word, name_at, variable_at, term_at, no_word}
use Rattle.mf_reader.specs.Heads.{function_of, predicate_of}
use Rattle.mf_reader.specs.Places.{Seen}
use Rattle.mf_reader.specs.Atoms.{atom_by, atom_at, call_by, call_at}
use Rattle.mf_reader.specs.Typed.{either_types, list_types, list_parent, item_in, types_in, grouped, group_from, dash_from}
use Rattle.mf_reader.proofs.Rows.{Within, single, wider, joined, Ordered, Row, row_tail, Keeps, each_within}
use Rattle.mf_reader.proofs.Choices.{by_test}

-- Words

abbrev pub AtFace : (Face → Said Word) → Face → Type 0
AtFace read face = (from to : ℕ) → from ≤ (span_of face).start → (span_of face).start < to → Within from (read face).faults to

clean : (from place to : ℕ) → from ≤ place → place < to → from ≤ to
clean from place to a b = omega arith

pub name_within : (face : Face) → AtFace name_at face
name_within (Branch span) from to a b = single from (BadForm span) to a b
name_within (Leaf Name text span) from to a b = clean from span.start to a b
name_within (Leaf Left text span) from to a b = single from (BadForm span) to a b
name_within (Leaf Right text span) from to a b = single from (BadForm span) to a b
name_within (Leaf Variable text span) from to a b = single from (BadForm span) to a b
name_within (Leaf Keyword text span) from to a b = single from (BadForm span) to a b
name_within (Leaf Number text span) from to a b = single from (BadForm span) to a b
name_within (Leaf Sign text span) from to a b = single from (BadForm span) to a b
name_within (Leaf Plain text span) from to a b = single from (BadForm span) to a b

variable_within : (face : Face) → AtFace variable_at face
variable_within (Branch span) from to a b = single from (BadForm span) to a b
variable_within (Leaf Variable text span) from to a b = clean from span.start to a b
variable_within (Leaf Left text span) from to a b = single from (BadForm span) to a b
variable_within (Leaf Right text span) from to a b = single from (BadForm span) to a b
variable_within (Leaf Name text span) from to a b = single from (BadForm span) to a b
variable_within (Leaf Keyword text span) from to a b = single from (BadForm span) to a b
variable_within (Leaf Number text span) from to a b = single from (BadForm span) to a b
variable_within (Leaf Sign text span) from to a b = single from (BadForm span) to a b
variable_within (Leaf Plain text span) from to a b = single from (BadForm span) to a b

term_within : (face : Face) → AtFace term_at face
term_within (Branch span) from to a b = single from (BadForm span) to a b
term_within (Leaf Name text span) from to a b = clean from span.start to a b
term_within (Leaf Variable text span) from to a b = clean from span.start to a b
term_within (Leaf Left text span) from to a b = single from (BadForm span) to a b
term_within (Leaf Right text span) from to a b = single from (BadForm span) to a b
term_within (Leaf Keyword text span) from to a b = single from (BadForm span) to a b
term_within (Leaf Number text span) from to a b = single from (BadForm span) to a b
term_within (Leaf Sign text span) from to a b = single from (BadForm span) to a b
term_within (Leaf Plain text span) from to a b = single from (BadForm span) to a b

pub name_keeps : Keeps (λ s. (name_at s.face).faults)
name_keeps s from to o = name_within s.face from to o.first o.some

pub variable_keeps : Keeps (λ s. (variable_at s.face).faults)
variable_keeps s from to o = variable_within s.face from to o.first o.some

pub term_keeps : Keeps (λ s. (term_at s.face).faults)
term_keeps s from to o = term_within s.face from to o.first o.some

-- Lists: what stands in a list stands between its ends

abbrev pub IsIn : {A : Type 0} → Span → Said A → Type 0
IsIn span x = Within span.start x.faults span.end

pub none_in : (span : Span) → span.start < span.end → span.start ≤ span.end
none_in span some = omega arith

pub bad_in : (span : Span) → span.start < span.end → Within span.start (BadForm span ∷ []) span.end
bad_in span some = single span.start (BadForm span) span.end (omega arith) some

pub left_in : (span : Span) → span.start < span.end → Within span.start (LeftOut span ∷ []) span.end
left_in span some = single span.start (LeftOut span) span.end (omega arith) some

-- Types

either_in : (span : Span) (parts : List Seen) → span.start < span.end → Row span.start parts span.end → IsIn span (either_types span parts)
either_in span [] some row = bad_in span some
either_in span (s ∷ ss) some row = each_within (λ s. name_at s.face) name_keeps span.start (s ∷ ss) span.end row

pub types_in_list : (span : Span) (items : List Seen) → span.start < span.end → Row span.start items span.end → IsIn span (list_types span items)
types_in_list span [] some row = bad_in span some
types_in_list span (head ∷ parts) some row =
    by_test (IsIn span) (has_text (codes "either") head.face) (either_types span parts) (bad span [])
    (λ is. either_in span parts some (row_tail span.start head parts span.end row))
    (λ is. bad_in span some)

pub parent_in_list : (span : Span) (items : List Seen) → span.start < span.end → IsIn span (list_parent span items)
parent_in_list span [] some = bad_in span some
parent_in_list span (head ∷ parts) some =
    by_test (IsIn span) (has_text (codes "either") head.face) (left_out span (word [] span)) (no_word span)
    (λ is. left_in span some)
    (λ is. bad_in span some)

-- Typed lists

item_keeps : (listed : Listed) → Keeps (λ s. (item_in listed s).faults)
item_keeps Variables = variable_keeps
item_keeps Names = name_keeps
item_keeps Types = λ s from to o. o.parent

types_keep : (listed : Listed) → Keeps (λ s. (types_in listed s).faults)
types_keep Variables = λ s from to o. o.types
types_keep Names = λ s from to o. o.types
types_keep Types = λ s from to o. o.parent

dash_fault : (s : Seen) (from begin end to : ℕ) → from ≤ begin → Ordered s begin end → end ≤ to → Within from (BadForm (span_of s.face) ∷ []) to
dash_fault s from begin end to a o b =
    let first = o.first in let some = o.some in
    single from (BadForm (span_of s.face)) to (omega arith) (omega arith)

grouped_within : (listed : Listed) (words : List Word) (d k : Seen) (later : Said (List Typed)) (from begin end middle last to : ℕ) → from ≤ begin → Ordered d begin end → end ≤ middle → Ordered k middle last → Within last later.faults to → Within from (grouped listed words (span_of d.face) k later).faults to
grouped_within listed [] d k later from begin end middle last to a dash b kind rest =
    let first = kind.first in let some = kind.some in let r = wider_order last later.faults to rest in
    dash_fault d from begin end to a dash (omega arith)
  where
    wider_order : (from : ℕ) (fs : List FormFault) (to : ℕ) → Within from fs to → from ≤ to
    wider_order from [] to h = h
    wider_order from (f ∷ fs) to h = let x = h.0 in let y = h.1 in omega arith
grouped_within listed (w ∷ ws) d k later from begin end middle last to a dash b kind rest =
    let first = dash.first in let some = dash.some in
    joined from (types_in listed k).faults last later.faults to (wider middle from (types_in listed k).faults last last (omega arith) (omega arith) (types_keep listed k middle last kind)) rest

pub group_within : (listed : Listed) (words : List Word) (from : ℕ) (ss : List Seen) (to : ℕ) → Row from ss to → Within from (group_from listed words ss).faults to
group_within listed words from [] to row = row
group_within listed words from (s ∷ []) to row =
    let a = row.2 in let b = row.4 in
    by_test (λ (x : Said (List Typed)). Within from x.faults to) (is_dash s.face) (dash_from listed words (span_of s.face) []) (both (λ w rest. rest) (item_in listed s) (group_from listed (words ++ (item_in listed s).value ∷ []) []))
    (λ is. dash_fault s from row.0 row.1 to row.2 row.3 row.4)
    (λ is. joined from (item_in listed s).faults row.1 [] to (wider row.0 from (item_in listed s).faults row.1 row.1 a (omega arith) (item_keeps listed s row.0 row.1 row.3)) b)
group_within listed words from (s ∷ k ∷ ss) to row =
    let a = row.2 in let next = row.4 in let rest = next.4 in
    by_test (λ (x : Said (List Typed)). Within from x.faults to) (is_dash s.face) (grouped listed words (span_of s.face) k (group_from listed [] ss)) (both (λ w rest. rest) (item_in listed s) (group_from listed (words ++ (item_in listed s).value ∷ []) (k ∷ ss)))
    (λ is. grouped_within listed words s k (group_from listed [] ss) from row.0 row.1 next.0 next.1 to row.2 row.3 next.2 next.3 (group_within listed [] next.1 ss to rest))
    (λ is. joined from (item_in listed s).faults row.1 (group_from listed (words ++ (item_in listed s).value ∷ []) (k ∷ ss)).faults to (wider row.0 from (item_in listed s).faults row.1 row.1 a (omega arith) (item_keeps listed s row.0 row.1 row.3)) (group_within listed (words ++ (item_in listed s).value ∷ []) row.1 (k ∷ ss) to next))

-- Atoms and function terms

atom_by_in : (o : Option Word) (span : Span) (parts : List Seen) → span.start < span.end → Row span.start parts span.end → IsIn span (atom_by o span parts)
atom_by_in None span parts some row = bad_in span some
atom_by_in (Some w) span parts some row = each_within (λ s. term_at s.face) term_keeps span.start parts span.end row

pub atom_in_list : (span : Span) (items : List Seen) → span.start < span.end → Row span.start items span.end → IsIn span (atom_at span items)
atom_in_list span [] some row = bad_in span some
atom_in_list span (head ∷ parts) some row = atom_by_in (predicate_of head.face) span parts some (row_tail span.start head parts span.end row)

call_by_in : (o : Option Word) (span : Span) (parts : List Seen) → span.start < span.end → Row span.start parts span.end → IsIn span (call_by o span parts)
call_by_in None span parts some row = bad_in span some
call_by_in (Some w) span parts some row = each_within (λ s. term_at s.face) term_keeps span.start parts span.end row

pub call_in_list : (span : Span) (items : List Seen) → span.start < span.end → Row span.start items span.end → IsIn span (call_at span items)
call_in_list span [] some row = bad_in span some
call_in_list span (head ∷ parts) some row = call_by_in (function_of head.face) span parts some (row_tail span.start head parts span.end row)
