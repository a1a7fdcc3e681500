-- The same bytes are one edit only, and what is written for an edit is that edit.
use Rattle.std.proofs.Common.{◌≡◌, ℕ, ◌≤◌, List, [], ◌∷◌, ◌++◌, length, flat_map, map, fold, Option, Some, None, refl, sym, ◌∙◌, ap, subst, arith, append_assoc, length-append, codes}
use Rattle.std.specs.List.{filter_map, cons_option, last_or, AllByRecursion}
use Rattle.std.specs.List.Sorted.{IsStrictlySortedBy}
use Rattle.std.specs.Option.{option_to_list}
use Rattle.std.specs.declared.cmp.Ordering.TheVariants.{Less, Greater}
use Rattle.std.specs.Ordering.{ordering_reverse, match_ordering}
use Rattle.std.specs.Cmp.{IsTotalOrder, nat_cmp_total, on_total, then_total}
use Rattle.std.specs.BTreeSet.{insert_key}
use Rattle.std.proofs.lemmas.List.{append-nil}
use Rattle.std.proofs.lemmas.List.Elements.{filter_map-append}
use Rattle.std.proofs.lemmas.List.Sums.{fold-append}
use Rattle.leveldb_base.specs.Varint.{varint, sized}
use Rattle.leveldb_base.proofs.VarintLemmas.{one_number, one_sized}
use Rattle.leveldb_files.specs.Edits.Edit.{with_field, Pointer, NewFile, LevelFile, Edit, Field, comparator_is, log_is, previous_log_is, next_file_is, last_sequence_is, points, deletes, adds, field_bytes, comparator_in, log_in, previous_log_in, next_file_in, last_sequence_in, pointer_in, deleted_in, added_in, last_value, file_order, files_in_order, edit_of_fields, fields_of, edit_bytes, empty_edit, IsEdit, IsEncodable}

-- ---- the same bytes are one edit only

pointer_again : (a b : Pointer) → a.level ≡ b.level → a.key ≡ b.key → points a ≡ points b
pointer_again a b l k = let made : ℕ → List ℕ → Field = λ level key. points (record { level = level; key = key }) in ap (λ z. made z a.key) l ∙ ap (made b.level) k

deleted_again : (a b : LevelFile) → a.0 ≡ b.0 → a.1 ≡ b.1 → deletes a ≡ deletes b
deleted_again a b l n = let made : ℕ → ℕ → Field = λ level number. deletes (level, number) in ap (λ z. made z a.1) l ∙ ap (made b.0) n

file_again : (a b : NewFile) → a.level ≡ b.level → a.number ≡ b.number → a.size ≡ b.size → a.smallest ≡ b.smallest → a.largest ≡ b.largest → adds a ≡ adds b
file_again a b l n s f g =
    let made : ℕ → ℕ → ℕ → List ℕ → List ℕ → Field = λ level number size smallest largest. adds (record { level = level; number = number; size = size; smallest = smallest; largest = largest }) in
    ap (λ z. made z a.number a.size a.smallest a.largest) l ∙ ap (λ z. made b.level z a.size a.smallest a.largest) n
    ∙ ap (λ z. made b.level b.number z a.smallest a.largest) s ∙ ap (λ z. made b.level b.number b.size z a.largest) f ∙ ap (made b.level b.number b.size b.smallest) g

file_parted : (it : NewFile) (more : List ℕ) → (varint it.level ++ (varint it.number ++ (varint it.size ++ (sized it.smallest ++ sized it.largest)))) ++ more
    ≡ varint it.level ++ (varint it.number ++ (varint it.size ++ (sized it.smallest ++ (sized it.largest ++ more))))
file_parted it more = simp append_assoc

same_file : (a b : NewFile) (x y : List ℕ) → field_bytes (adds a) ++ x ≡ field_bytes (adds b) ++ y → (adds a ≡ adds b) × (x ≡ y)
same_file a b x y e =
    let tail : (varint a.level ++ (varint a.number ++ (varint a.size ++ (sized a.smallest ++ sized a.largest)))) ++ x ≡ (varint b.level ++ (varint b.number ++ (varint b.size ++ (sized b.smallest ++ sized b.largest)))) ++ y = cc in
    let l = one_number a.level b.level _ _ (sym (file_parted a x) ∙ tail ∙ file_parted b y) in
    let n = one_number a.number b.number _ _ l.1 in
    let s = one_number a.size b.size _ _ n.1 in
    let f = one_sized a.smallest b.smallest _ _ s.1 in
    let g = one_sized a.largest b.largest x y f.1 in
    (file_again a b l.0 n.0 s.0 f.0 g.0, g.1)

one_field : (f g : Field) (x y : List ℕ) → field_bytes f ++ x ≡ field_bytes g ++ y → (f ≡ g) × (x ≡ y)
one_field (comparator_is m) (comparator_is n) x y e = let tail : sized m ++ x ≡ sized n ++ y = cc in let r = one_sized m n x y tail in (ap comparator_is r.0, r.1)
one_field (log_is m) (log_is n) x y e = let tail : varint m ++ x ≡ varint n ++ y = cc in let r = one_number m n x y tail in (ap log_is r.0, r.1)
one_field (previous_log_is m) (previous_log_is n) x y e = let tail : varint m ++ x ≡ varint n ++ y = cc in let r = one_number m n x y tail in (ap previous_log_is r.0, r.1)
one_field (next_file_is m) (next_file_is n) x y e = let tail : varint m ++ x ≡ varint n ++ y = cc in let r = one_number m n x y tail in (ap next_file_is r.0, r.1)
one_field (last_sequence_is m) (last_sequence_is n) x y e = let tail : varint m ++ x ≡ varint n ++ y = cc in let r = one_number m n x y tail in (ap last_sequence_is r.0, r.1)
one_field (points a) (points b) x y e =
    let tail : (varint a.level ++ sized a.key) ++ x ≡ (varint b.level ++ sized b.key) ++ y = cc in
    let l = one_number a.level b.level _ _ (sym (append_assoc (varint a.level) (sized a.key) x) ∙ tail ∙ append_assoc (varint b.level) (sized b.key) y) in
    let k = one_sized a.key b.key x y l.1 in
    (pointer_again a b l.0 k.0, k.1)
one_field (deletes a) (deletes b) x y e =
    let tail : (varint a.0 ++ varint a.1) ++ x ≡ (varint b.0 ++ varint b.1) ++ y = cc in
    let l = one_number a.0 b.0 _ _ (sym (append_assoc (varint a.0) (varint a.1) x) ∙ tail ∙ append_assoc (varint b.0) (varint b.1) y) in
    let n = one_number a.1 b.1 x y l.1 in
    (deleted_again a b l.0 n.0, n.1)
one_field (adds a) (adds b) x y e = same_file a b x y e
one_field f g x y e = absurd (cc)

-- no field is empty
pub length-field-pos : (field : Field) → 1 ≤ length (field_bytes field)
length-field-pos (comparator_is name) = omega arith
length-field-pos (log_is n) = omega arith
length-field-pos (previous_log_is n) = omega arith
length-field-pos (next_file_is n) = omega arith
length-field-pos (last_sequence_is n) = omega arith
length-field-pos (points it) = omega arith
length-field-pos (deletes it) = omega arith
length-field-pos (adds it) = omega arith

-- no field is a prefix of another
pub field_front : (f g : Field) (x y : List ℕ) → field_bytes f ++ x ≡ field_bytes g ++ y → (f ≡ g) × (x ≡ y)
field_front f g x y e = one_field f g x y e

-- fields have one reading
one_list : (xs ys : List Field) → flat_map field_bytes xs ≡ flat_map field_bytes ys → xs ≡ ys
one_list [] [] e = refl
one_list [] (y ∷ ys) e = absurd (omega (arith, ap length e, length-append (field_bytes y) (flat_map field_bytes ys), length-field-pos y))
one_list (x ∷ xs) [] e = absurd (omega (arith, ap length e, length-append (field_bytes x) (flat_map field_bytes xs), length-field-pos x))
one_list (x ∷ xs) (y ∷ ys) e =
    let r = field_front x y (flat_map field_bytes xs) (flat_map field_bytes ys) e in
    ap (λ z. z ∷ xs) r.0 ∙ ap (λ z. y ∷ z) (one_list xs ys r.1)

pub one_edit : (bytes : List ℕ) (d e : Edit) → IsEdit bytes d → IsEdit bytes e → d ≡ e
one_edit bytes d e f g = f.made ∙ ap edit_of_fields (one_list f.fields g.fields (sym f.encoded ∙ g.encoded)) ∙ sym g.made

-- ---- helpers

abbrev edit_with : Option (List ℕ) → Option ℕ → Option ℕ → Option ℕ → Option ℕ → List Pointer → List LevelFile → List NewFile → Edit
edit_with c l p n s q d a = record { comparator = c; log_number = l; previous_log = p; next_file = n; last_sequence = s; pointers = q; deleted = d; added = a }

last_or-push : {A : Type 0} (o : Option A) (xs : List A) (x : A) → last_or o (xs ++ x ∷ []) ≡ Some x
last_or-push o [] x = refl
last_or-push o (y ∷ xs) x = last_or-push (Some y) xs x

each_later : (first : LevelFile) (files : List LevelFile) (file : LevelFile) (more : List LevelFile) → AllByRecursion (λ y. file_order first y ≡ Less) (files ++ file ∷ more) → file_order first file ≡ Less
each_later first [] file more h = h.0
each_later first (x ∷ files) file more h = each_later first files file more h.1

-- ---- one more field

same_edit : {c c' : Option (List ℕ)} {l l' p p' n n' s s' : Option ℕ} {q q' : List Pointer} {d d' : List LevelFile} {a a' : List NewFile}
    → c ≡ c' → l ≡ l' → p ≡ p' → n ≡ n' → s ≡ s' → q ≡ q' → d ≡ d' → a ≡ a' → edit_with c l p n s q d a ≡ edit_with c' l' p' n' s' q' d' a'
same_edit c l p n s q d a = cc

module _ {A : Type 0} (value : Field → Option A) (fields : List Field) where
  list_kept : (field : Field) → value field ≡ None → filter_map value (fields ++ field ∷ []) ≡ filter_map value fields
  list_kept field none = filter_map-append value fields (field ∷ []) ∙ ap (λ z. filter_map value fields ++ cons_option z []) none ∙ append-nil (filter_map value fields)

  list_pushed : (field : Field) (x : A) → value field ≡ Some x → filter_map value (fields ++ field ∷ []) ≡ filter_map value fields ++ x ∷ []
  list_pushed field x some = filter_map-append value fields (field ∷ []) ∙ ap (λ z. filter_map value fields ++ cons_option z []) some

  last_kept : (field : Field) → value field ≡ None → last_value value (fields ++ field ∷ []) ≡ last_value value fields
  last_kept field none = ap (last_or None) (list_kept field none)

  last_set : (field : Field) (x : A) → value field ≡ Some x → last_value value (fields ++ field ∷ []) ≡ Some x
  last_set field x some = ap (last_or None) (list_pushed field x some) ∙ last_or-push None (filter_map value fields) x

module _ (fields : List Field) (field : Field) (none : deleted_in field ≡ None) where
  files_kept : files_in_order (filter_map deleted_in (fields ++ field ∷ [])) ≡ files_in_order (filter_map deleted_in fields)
  files_kept = ap files_in_order (list_kept deleted_in fields field none)

-- a field after the others sets its value, or adds it
pub edit_of_fields-push : (fields : List Field) (field : Field) → edit_of_fields (fields ++ field ∷ []) ≡ with_field (edit_of_fields fields) field
unfolding edit_of_fields
edit_of_fields-push fields (comparator_is name) =
    same_edit (last_set comparator_in fields (comparator_is name) name refl) (last_kept log_in fields (comparator_is name) refl) (last_kept previous_log_in fields (comparator_is name) refl) (last_kept next_file_in fields (comparator_is name) refl) (last_kept last_sequence_in fields (comparator_is name) refl) (list_kept pointer_in fields (comparator_is name) refl) (files_kept fields (comparator_is name) refl) (list_kept added_in fields (comparator_is name) refl)
edit_of_fields-push fields (log_is n) =
    same_edit (last_kept comparator_in fields (log_is n) refl) (last_set log_in fields (log_is n) n refl) (last_kept previous_log_in fields (log_is n) refl) (last_kept next_file_in fields (log_is n) refl) (last_kept last_sequence_in fields (log_is n) refl) (list_kept pointer_in fields (log_is n) refl) (files_kept fields (log_is n) refl) (list_kept added_in fields (log_is n) refl)
edit_of_fields-push fields (previous_log_is n) =
    same_edit (last_kept comparator_in fields (previous_log_is n) refl) (last_kept log_in fields (previous_log_is n) refl) (last_set previous_log_in fields (previous_log_is n) n refl) (last_kept next_file_in fields (previous_log_is n) refl) (last_kept last_sequence_in fields (previous_log_is n) refl) (list_kept pointer_in fields (previous_log_is n) refl) (files_kept fields (previous_log_is n) refl) (list_kept added_in fields (previous_log_is n) refl)
edit_of_fields-push fields (next_file_is n) =
    same_edit (last_kept comparator_in fields (next_file_is n) refl) (last_kept log_in fields (next_file_is n) refl) (last_kept previous_log_in fields (next_file_is n) refl) (last_set next_file_in fields (next_file_is n) n refl) (last_kept last_sequence_in fields (next_file_is n) refl) (list_kept pointer_in fields (next_file_is n) refl) (files_kept fields (next_file_is n) refl) (list_kept added_in fields (next_file_is n) refl)
edit_of_fields-push fields (last_sequence_is n) =
    same_edit (last_kept comparator_in fields (last_sequence_is n) refl) (last_kept log_in fields (last_sequence_is n) refl) (last_kept previous_log_in fields (last_sequence_is n) refl) (last_kept next_file_in fields (last_sequence_is n) refl) (last_set last_sequence_in fields (last_sequence_is n) n refl) (list_kept pointer_in fields (last_sequence_is n) refl) (files_kept fields (last_sequence_is n) refl) (list_kept added_in fields (last_sequence_is n) refl)
edit_of_fields-push fields (points it) =
    same_edit (last_kept comparator_in fields (points it) refl) (last_kept log_in fields (points it) refl) (last_kept previous_log_in fields (points it) refl) (last_kept next_file_in fields (points it) refl) (last_kept last_sequence_in fields (points it) refl) (list_pushed pointer_in fields (points it) it refl) (files_kept fields (points it) refl) (list_kept added_in fields (points it) refl)
edit_of_fields-push fields (deletes it) =
    same_edit (last_kept comparator_in fields (deletes it) refl) (last_kept log_in fields (deletes it) refl) (last_kept previous_log_in fields (deletes it) refl) (last_kept next_file_in fields (deletes it) refl) (last_kept last_sequence_in fields (deletes it) refl) (list_kept pointer_in fields (deletes it) refl) (ap files_in_order (list_pushed deleted_in fields (deletes it) it refl) ∙ fold-append (insert_key file_order) [] (filter_map deleted_in fields) (it ∷ [])) (list_kept added_in fields (deletes it) refl)
edit_of_fields-push fields (adds it) =
    same_edit (last_kept comparator_in fields (adds it) refl) (last_kept log_in fields (adds it) refl) (last_kept previous_log_in fields (adds it) refl) (last_kept next_file_in fields (adds it) refl) (last_kept last_sequence_in fields (adds it) refl) (list_kept pointer_in fields (adds it) refl) (files_kept fields (adds it) refl) (list_pushed added_in fields (adds it) it refl)

-- ---- what is written for an edit is that edit

-- a kind passes over the fields of another
passes : {A B : Type 0} (value : Field → Option A) (make : B → Field) → ((x : B) → value (make x) ≡ None) → (xs : List B) (rest : List Field)
    → filter_map value (map make xs ++ rest) ≡ filter_map value rest
passes value make none [] rest = refl
passes value make none (x ∷ xs) rest = ap (λ z. cons_option z (filter_map value (map make xs ++ rest))) (none x) ∙ passes value make none xs rest

-- and gives the values of its own
gives : {A : Type 0} (value : Field → Option A) (make : A → Field) → ((x : A) → value (make x) ≡ Some x) → (xs : List A) (rest : List Field)
    → filter_map value (map make xs ++ rest) ≡ xs ++ filter_map value rest
gives value make own [] rest = refl
gives value make own (x ∷ xs) rest = ap (λ z. cons_option z (filter_map value (map make xs ++ rest))) (own x) ∙ ap (λ z. x ∷ z) (gives value make own xs rest)

last_of_one : {A : Type 0} (o : Option A) → last_or None (option_to_list o) ≡ o
last_of_one None = refl
last_of_one (Some x) = refl

-- what each kind gives of the fields that are written
module _ (edit : Edit) where
  abbrev from_added : List Field
  from_added = map adds edit.added ++ []

  abbrev from_deleted : List Field
  from_deleted = map deletes edit.deleted ++ from_added

  abbrev from_pointers : List Field
  from_pointers = map points edit.pointers ++ from_deleted

  abbrev from_last : List Field
  from_last = map last_sequence_is (option_to_list edit.last_sequence) ++ from_pointers

  abbrev from_next : List Field
  from_next = map next_file_is (option_to_list edit.next_file) ++ from_last

  abbrev from_previous : List Field
  from_previous = map previous_log_is (option_to_list edit.previous_log) ++ from_next

  abbrev from_log : List Field
  from_log = map log_is (option_to_list edit.log_number) ++ from_previous

  abbrev from_comparator : List Field
  from_comparator = map comparator_is (option_to_list edit.comparator) ++ from_log

  fields_spread : fields_of edit ≡ from_comparator
  fields_spread = ap (λ z. map comparator_is (option_to_list edit.comparator) ++ z) (ap (λ z. map log_is (option_to_list edit.log_number) ++ z) (ap (λ z. map previous_log_is (option_to_list edit.previous_log) ++ z) (ap (λ z. map next_file_is (option_to_list edit.next_file) ++ z) (ap (λ z. map last_sequence_is (option_to_list edit.last_sequence) ++ z) (ap (λ z. map points edit.pointers ++ z) (ap (λ z. map deletes edit.deleted ++ z) (sym (append-nil (map adds edit.added)))))))))

  comparator_written : filter_map comparator_in (fields_of edit) ≡ option_to_list edit.comparator
  comparator_written =
      ap (filter_map comparator_in) fields_spread
      ∙ gives comparator_in comparator_is (λ x. refl) (option_to_list edit.comparator) from_log
      ∙ ap (λ z. (option_to_list edit.comparator) ++ z) (passes comparator_in log_is (λ x. refl) (option_to_list edit.log_number) from_previous
      ∙ passes comparator_in previous_log_is (λ x. refl) (option_to_list edit.previous_log) from_next
      ∙ passes comparator_in next_file_is (λ x. refl) (option_to_list edit.next_file) from_last
      ∙ passes comparator_in last_sequence_is (λ x. refl) (option_to_list edit.last_sequence) from_pointers
      ∙ passes comparator_in points (λ x. refl) edit.pointers from_deleted
      ∙ passes comparator_in deletes (λ x. refl) edit.deleted from_added
      ∙ passes comparator_in adds (λ x. refl) edit.added [])
      ∙ append-nil (option_to_list edit.comparator)

  log_number_written : filter_map log_in (fields_of edit) ≡ option_to_list edit.log_number
  log_number_written =
      ap (filter_map log_in) fields_spread
      ∙ passes log_in comparator_is (λ x. refl) (option_to_list edit.comparator) from_log
      ∙ gives log_in log_is (λ x. refl) (option_to_list edit.log_number) from_previous
      ∙ ap (λ z. (option_to_list edit.log_number) ++ z) (passes log_in previous_log_is (λ x. refl) (option_to_list edit.previous_log) from_next
      ∙ passes log_in next_file_is (λ x. refl) (option_to_list edit.next_file) from_last
      ∙ passes log_in last_sequence_is (λ x. refl) (option_to_list edit.last_sequence) from_pointers
      ∙ passes log_in points (λ x. refl) edit.pointers from_deleted
      ∙ passes log_in deletes (λ x. refl) edit.deleted from_added
      ∙ passes log_in adds (λ x. refl) edit.added [])
      ∙ append-nil (option_to_list edit.log_number)

  previous_log_written : filter_map previous_log_in (fields_of edit) ≡ option_to_list edit.previous_log
  previous_log_written =
      ap (filter_map previous_log_in) fields_spread
      ∙ passes previous_log_in comparator_is (λ x. refl) (option_to_list edit.comparator) from_log
      ∙ passes previous_log_in log_is (λ x. refl) (option_to_list edit.log_number) from_previous
      ∙ gives previous_log_in previous_log_is (λ x. refl) (option_to_list edit.previous_log) from_next
      ∙ ap (λ z. (option_to_list edit.previous_log) ++ z) (passes previous_log_in next_file_is (λ x. refl) (option_to_list edit.next_file) from_last
      ∙ passes previous_log_in last_sequence_is (λ x. refl) (option_to_list edit.last_sequence) from_pointers
      ∙ passes previous_log_in points (λ x. refl) edit.pointers from_deleted
      ∙ passes previous_log_in deletes (λ x. refl) edit.deleted from_added
      ∙ passes previous_log_in adds (λ x. refl) edit.added [])
      ∙ append-nil (option_to_list edit.previous_log)

  next_file_written : filter_map next_file_in (fields_of edit) ≡ option_to_list edit.next_file
  next_file_written =
      ap (filter_map next_file_in) fields_spread
      ∙ passes next_file_in comparator_is (λ x. refl) (option_to_list edit.comparator) from_log
      ∙ passes next_file_in log_is (λ x. refl) (option_to_list edit.log_number) from_previous
      ∙ passes next_file_in previous_log_is (λ x. refl) (option_to_list edit.previous_log) from_next
      ∙ gives next_file_in next_file_is (λ x. refl) (option_to_list edit.next_file) from_last
      ∙ ap (λ z. (option_to_list edit.next_file) ++ z) (passes next_file_in last_sequence_is (λ x. refl) (option_to_list edit.last_sequence) from_pointers
      ∙ passes next_file_in points (λ x. refl) edit.pointers from_deleted
      ∙ passes next_file_in deletes (λ x. refl) edit.deleted from_added
      ∙ passes next_file_in adds (λ x. refl) edit.added [])
      ∙ append-nil (option_to_list edit.next_file)

  last_sequence_written : filter_map last_sequence_in (fields_of edit) ≡ option_to_list edit.last_sequence
  last_sequence_written =
      ap (filter_map last_sequence_in) fields_spread
      ∙ passes last_sequence_in comparator_is (λ x. refl) (option_to_list edit.comparator) from_log
      ∙ passes last_sequence_in log_is (λ x. refl) (option_to_list edit.log_number) from_previous
      ∙ passes last_sequence_in previous_log_is (λ x. refl) (option_to_list edit.previous_log) from_next
      ∙ passes last_sequence_in next_file_is (λ x. refl) (option_to_list edit.next_file) from_last
      ∙ gives last_sequence_in last_sequence_is (λ x. refl) (option_to_list edit.last_sequence) from_pointers
      ∙ ap (λ z. (option_to_list edit.last_sequence) ++ z) (passes last_sequence_in points (λ x. refl) edit.pointers from_deleted
      ∙ passes last_sequence_in deletes (λ x. refl) edit.deleted from_added
      ∙ passes last_sequence_in adds (λ x. refl) edit.added [])
      ∙ append-nil (option_to_list edit.last_sequence)

  pointers_written : filter_map pointer_in (fields_of edit) ≡ edit.pointers
  pointers_written =
      ap (filter_map pointer_in) fields_spread
      ∙ passes pointer_in comparator_is (λ x. refl) (option_to_list edit.comparator) from_log
      ∙ passes pointer_in log_is (λ x. refl) (option_to_list edit.log_number) from_previous
      ∙ passes pointer_in previous_log_is (λ x. refl) (option_to_list edit.previous_log) from_next
      ∙ passes pointer_in next_file_is (λ x. refl) (option_to_list edit.next_file) from_last
      ∙ passes pointer_in last_sequence_is (λ x. refl) (option_to_list edit.last_sequence) from_pointers
      ∙ gives pointer_in points (λ x. refl) edit.pointers from_deleted
      ∙ ap (λ z. edit.pointers ++ z) (passes pointer_in deletes (λ x. refl) edit.deleted from_added
      ∙ passes pointer_in adds (λ x. refl) edit.added [])
      ∙ append-nil edit.pointers

  deleted_written : filter_map deleted_in (fields_of edit) ≡ edit.deleted
  deleted_written =
      ap (filter_map deleted_in) fields_spread
      ∙ passes deleted_in comparator_is (λ x. refl) (option_to_list edit.comparator) from_log
      ∙ passes deleted_in log_is (λ x. refl) (option_to_list edit.log_number) from_previous
      ∙ passes deleted_in previous_log_is (λ x. refl) (option_to_list edit.previous_log) from_next
      ∙ passes deleted_in next_file_is (λ x. refl) (option_to_list edit.next_file) from_last
      ∙ passes deleted_in last_sequence_is (λ x. refl) (option_to_list edit.last_sequence) from_pointers
      ∙ passes deleted_in points (λ x. refl) edit.pointers from_deleted
      ∙ gives deleted_in deletes (λ x. refl) edit.deleted from_added
      ∙ ap (λ z. edit.deleted ++ z) (passes deleted_in adds (λ x. refl) edit.added [])
      ∙ append-nil edit.deleted

  added_written : filter_map added_in (fields_of edit) ≡ edit.added
  added_written =
      ap (filter_map added_in) fields_spread
      ∙ passes added_in comparator_is (λ x. refl) (option_to_list edit.comparator) from_log
      ∙ passes added_in log_is (λ x. refl) (option_to_list edit.log_number) from_previous
      ∙ passes added_in previous_log_is (λ x. refl) (option_to_list edit.previous_log) from_next
      ∙ passes added_in next_file_is (λ x. refl) (option_to_list edit.next_file) from_last
      ∙ passes added_in last_sequence_is (λ x. refl) (option_to_list edit.last_sequence) from_pointers
      ∙ passes added_in points (λ x. refl) edit.pointers from_deleted
      ∙ passes added_in deletes (λ x. refl) edit.deleted from_added
      ∙ gives added_in adds (λ x. refl) edit.added []
      ∙ append-nil edit.added

file_total : IsTotalOrder file_order
file_total = then_total (on_total (λ (t : LevelFile). t.0) nat_cmp_total) (on_total (λ (t : LevelFile). t.1) nat_cmp_total)

-- a file after all others is put after them
inserted_last : (files : List LevelFile) (file : LevelFile) (more : List LevelFile) → IsStrictlySortedBy file_order (files ++ file ∷ more) → insert_key file_order files file ≡ files ++ file ∷ []
unfolding IsStrictlySortedBy
inserted_last [] file more h = refl
inserted_last (first ∷ files) file more h =
    let before : file_order first file ≡ Less = each_later first files file more h.0 in
    let after : file_order file first ≡ Greater = file_total.antisymm file first ∙ ap ordering_reverse before in
    ap (λ o. match_ordering o (file ∷ first ∷ files) (first ∷ files) (first ∷ insert_key file_order files file)) after ∙ ap (λ z. first ∷ z) (inserted_last files file more h.1)

-- files in order are put one after the other
one_by_one : (front files : List LevelFile) → IsStrictlySortedBy file_order (front ++ files) → fold (insert_key file_order) front files ≡ front ++ files
one_by_one front [] h = sym (append-nil front)
one_by_one front (file ∷ files) h =
    ap (λ z. fold (insert_key file_order) z files) (inserted_last front file files h)
    ∙ one_by_one (front ++ file ∷ []) files (subst (IsStrictlySortedBy file_order) (sym (append_assoc front (file ∷ []) files)) h)
    ∙ append_assoc front (file ∷ []) files

pub written_is_read : (edit : Edit) → IsEncodable edit → IsEdit (edit_bytes edit) edit
unfolding edit_bytes edit_of_fields
written_is_read edit can = record {
  fields = fields_of edit;
  encoded = refl;
  fits = can.fits;
  made = same_edit
      (sym (ap (last_or None) (comparator_written edit) ∙ last_of_one edit.comparator))
      (sym (ap (last_or None) (log_number_written edit) ∙ last_of_one edit.log_number))
      (sym (ap (last_or None) (previous_log_written edit) ∙ last_of_one edit.previous_log))
      (sym (ap (last_or None) (next_file_written edit) ∙ last_of_one edit.next_file))
      (sym (ap (last_or None) (last_sequence_written edit) ∙ last_of_one edit.last_sequence))
      (sym (pointers_written edit))
      (sym (ap files_in_order (deleted_written edit) ∙ one_by_one [] edit.deleted can.ordered))
      (sym (added_written edit));
}

-- ---- worked edits, computed

-- the first edit of a store
abbrev first_edit : Edit
first_edit = record empty_edit { comparator = Some (codes "leveldb.BytewiseComparator"); log_number = Some 0; next_file = Some 2; last_sequence = Some 0 }

first_bytes : edit_bytes first_edit ≡ 0x01 ∷ 0x1a ∷ codes "leveldb.BytewiseComparator" ++ (0x02 ∷ 0x00 ∷ 0x03 ∷ 0x02 ∷ 0x04 ∷ 0x00 ∷ [])
unfolding edit_bytes varint
first_bytes = refl

first_length : length (edit_bytes first_edit) ≡ 34
unfolding edit_bytes varint
first_length = refl

-- of several numbers the last counts, and deleted files are in order, each once
abbrev some_fields : List Field
some_fields = log_is 5 ∷ deletes (1, 9) ∷ deletes (0, 200) ∷ log_is 6 ∷ deletes (1, 8) ∷ deletes (0, 200) ∷ []

some_edit : edit_of_fields some_fields ≡ record empty_edit { log_number = Some 6; deleted = (0, 200) ∷ (1, 8) ∷ (1, 9) ∷ [] }
unfolding edit_of_fields
some_edit = refl
