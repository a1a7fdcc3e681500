-- Which tables are live after an edit: those that it adds, and those that were live and that it
-- neither deletes nor replaces.
use Rattle.leveldb_base.proofs.HistoryLemmas.{in_cases, in_front, in_none, in_rest}
use Rattle.leveldb_base.specs.Types.{Pair}
use Rattle.leveldb_env.specs.Env.{Files}
use Rattle.leveldb_files.proofs.Edits.VersionSetLemmas.{applies_in_order}
use Rattle.leveldb_files.specs.Levels.Levels.{LiveTable}
use Rattle.leveldb_files.specs.Stores.Store.{HasTables}
use Rattle.leveldb_files.specs.Steps.StoreSteps.{AddsOnce, AreTablesAfter, HasAddedTables, LeavesAlone}
use Rattle.leveldb_files.specs.Edits.Edit.{Edit, LevelFile, NewFile}
use Rattle.leveldb_files.specs.Edits.VersionSet.{FileChange, adding, deleting, file_changes, is_same_file, last_one, left_by, level_file, live_after}
use Rattle.std.proofs.Common.{◌++◌, ◌∙◌, ◌∷◌, ◌≡◌, ◌⊎◌, Bool, List, None, Option, Some, [], ap, false, inl, inr, refl, rules, subst, sym, true, ℕ, ⊎_elim}
use Rattle.std.proofs.lemmas.List.Elements.{Contains-append_cases, Contains-append_left, Contains-append_right, filter_map-append}
use Rattle.std.specs.List.{cons_option, filter_map}
use Rattle.std.specs.Prelude.{Contains, if◌then◌else◌, map}
use Rattle.std.specs.declared.cmp.Ordering.{Ordering}

-- ---- the last of what is found

-- nothing is found, or what is left was found of one of them
abbrev LeftBy : {X Y : Type 0} → (X → Option Y) → Y → List X → Y → Type 0
LeftBy g value xs found = ((found ≡ value) × ((x : _) → Contains xs x → g x ≡ None))
    ⊎ ((x : _) × Contains xs x × (g x ≡ Some found))

one_left : {X Y : Type 0} (g : X → Option Y) (value : Y) (x : X) (xs : List X) (o : Option Y)
    → g x ≡ o → ((start : Y) → LeftBy g start xs (last_one start (filter_map g xs)))
    → LeftBy g value (x ∷ xs) (last_one value (cons_option o (filter_map g xs)))
one_left g value x xs None e rest = ⊎_elim
    (λ (none : _ × _). inl (
      none.0,
      λ y c.
          ⊎_elim (λ (same : x ≡ y). subst (λ z. g z ≡ None) same e)
          (λ (later : Contains xs y). none.1 y later) (in_cases x y xs c),
    ))
    (λ (one : _ × _ × _). inr (one.0, in_rest x one.0 xs one.1, one.2)) (rest value)
one_left g value x xs (Some y) e rest = ⊎_elim
    (λ (none : _ × _). inr (x, in_front x xs, e ∙ ap (λ z. Some z) (sym none.0)))
    (λ (one : _ × _ × _). inr (one.0, in_rest x one.0 xs one.1, one.2)) (rest y)

left_of : {X Y : Type 0} (g : X → Option Y) (xs : List X) (value : Y)
    → LeftBy g value xs (last_one value (filter_map g xs))
left_of g [] value = inl (refl, λ x c. absurd (in_none x c))
left_of g (x ∷ xs) value = one_left g value x xs (g x) refl (λ start. left_of g xs start)

-- ---- changes

in_map : {X Y : Type 0} (f : X → Y) (xs : List X) (y : Y) → Contains (map f xs) y
    → (x : X) × Contains xs x × (f x ≡ y)
in_map f [] y c = absurd (in_none y c)
in_map f (x ∷ xs) y c = ⊎_elim
    (λ (e : f x ≡ y). (x, in_front x xs, e))
    (λ (rest : Contains (map f xs) y). let r = in_map f xs y rest in
    (r.0, in_rest x r.0 xs r.1, r.2))
    (in_cases (f x) y (map f xs) c)

map_in : {X Y : Type 0} (f : X → Y) (xs : List X) (x : X) → Contains xs x
    → Contains (map f xs) (f x)
map_in f [] x c = absurd (in_none x c)
map_in f (y ∷ xs) x c = ⊎_elim
    (λ (e : y ≡ x). subst (λ z. Contains (map f (y ∷ xs)) (f z)) e (in_front (f y) (map f xs)))
    (λ (rest : Contains xs x). in_rest (f y) (f x) (map f xs) (map_in f xs x rest))
    (in_cases y x xs c)

if_none : {Y : Type 0} (same : Bool) (y : Y) → (if same then Some y else None) ≡ None → same ≡ false
if_none true y e = absurd (let never : Some y ≡ None = e in cc)
if_none false y e = refl

if_some : {Y : Type 0} (same : Bool) (y z : Y) → (if same then Some y else None) ≡ Some z
    → (same ≡ true) × (y ≡ z)
if_some true y z e = (refl, ap (λ o. elim o [ Some x ↦ x | None ↦ y ]) e)
if_some false y z e = absurd (let never : None ≡ Some z = e in cc)

-- what is live then was added, or was live and left alone
pub live_then : (edits : List Edit) (edit : Edit) (at : LevelFile) (file : NewFile)
    → (live_after (edits ++ edit ∷ [])).file at ≡ Some file
    → (Contains edit.added file × (is_same_file (level_file file) at ≡ true))
    ⊎ (((live_after edits).file at ≡ Some file) × LeavesAlone edit at)
live_then edits edit at file live = ⊎_elim
    (λ (none : _ × _). inr (
      sym none.0 ∙ sym step ∙ live,
      record {
        deleted =
            λ d c.
            if_none (is_same_file d at) None
            (none.1 (deleting d)
            (Contains-append_left (map deleting edit.deleted) (map adding edit.added) (deleting d)
            (map_in deleting edit.deleted d c)));
        added =
            λ f c.
            if_none (is_same_file (level_file f) at) (Some f)
            (none.1 (adding f)
            (Contains-append_right (map deleting edit.deleted) (map adding edit.added) (adding f)
            (map_in adding edit.added f c)));
      },
    ))
    (λ (one : _ × _ × _). inl (by_change one.0 one.1 (one.2 ∙ ap (λ z. Some z) (sym step ∙ live))))
    (left_of (left_by at) (file_changes edit) ((live_after edits).file at))
  where
    step :
        (live_after (edits ++ edit ∷ [])).file at
        ≡ last_one ((live_after edits).file at) (filter_map (left_by at) (file_changes edit))
    step = (applies_in_order edits edit).file at

    by_change : (c : FileChange) → Contains (file_changes edit) c → left_by at c ≡ Some (Some file)
        → Contains edit.added file × (is_same_file (level_file file) at ≡ true)
    by_change (deleting d) there e =
        absurd
        (let is = if_some (is_same_file d at) None (Some file) e in
        let never : None ≡ Some file = is.1 in cc)
    by_change (adding f) there e =
        let is = if_some (is_same_file (level_file f) at) (Some f) (Some file) e in
        let same : f ≡ file = ap (λ o. elim o [ Some x ↦ x | None ↦ f ]) is.1 in (
          subst (Contains edit.added) same (⊎_elim
              (λ (d : Contains (map deleting edit.deleted) (adding f)). let m =
              in_map deleting edit.deleted (adding f) d in
              absurd (let never : deleting m.0 ≡ adding f = m.2 in cc))
              (λ (a : Contains (map adding edit.added) (adding f)). let m =
              in_map adding edit.added (adding f) a in
              subst (Contains edit.added)
              (ap (λ c. elim c [ adding x ↦ x | deleting x ↦ m.0 ]) m.2) m.1)
              (Contains-append_cases (map deleting edit.deleted) (map adding edit.added)
              (adding f) there)),
          subst (λ (x : NewFile). is_same_file (level_file x) at ≡ true) same is.0,
        )

true_is_false : {b : Bool} → b ≡ true → b ≡ false → ⊥
true_is_false t f = let never : true ≡ false = sym t ∙ f in cc

-- what was live and is left alone is live
pub stays_live : (edits : List Edit) (edit : Edit) (at : LevelFile) (file : NewFile)
    → (live_after edits).file at ≡ Some file → LeavesAlone edit at
    → (live_after (edits ++ edit ∷ [])).file at ≡ Some file
stays_live edits edit at file live alone = (applies_in_order edits edit).file at ∙ ⊎_elim
    (λ (none : _ × _). none.0 ∙ live)
    (λ (one : _ × _ × _). absurd
    (touched one.0 one.1
    (last_one ((live_after edits).file at) (filter_map (left_by at) (file_changes edit)))
    one.2))
    (left_of (left_by at) (file_changes edit) ((live_after edits).file at))
  where
    touched : (c : FileChange) → Contains (file_changes edit) c → (found : Option NewFile)
        → left_by at c ≡ Some found → ⊥
    touched (deleting d) there found e = ⊎_elim
        (λ (x : Contains (map deleting edit.deleted) (deleting d)). let m =
        in_map deleting edit.deleted (deleting d) x in
        true_is_false (if_some (is_same_file d at) None found e).0
        (alone.deleted d
        (subst (Contains edit.deleted)
        (ap (λ c. elim c [ deleting y ↦ y | adding y ↦ m.0 ]) m.2) m.1)))
        (λ (x : Contains (map adding edit.added) (deleting d)). let m =
        in_map adding edit.added (deleting d) x in let never : adding m.0 ≡ deleting d = m.2 in
        cc)
        (Contains-append_cases (map deleting edit.deleted) (map adding edit.added)
        (deleting d) there)
    touched (adding f) there found e = ⊎_elim
        (λ (x : Contains (map deleting edit.deleted) (adding f)). let m =
        in_map deleting edit.deleted (adding f) x in
        let never : deleting m.0 ≡ adding f = m.2 in cc)
        (λ (x : Contains (map adding edit.added) (adding f)). let m =
        in_map adding edit.added (adding f) x in
        true_is_false (if_some (is_same_file (level_file f) at) (Some f) found e).0
        (alone.added f
        (subst (Contains edit.added)
        (ap (λ c. elim c [ adding y ↦ y | deleting y ↦ m.0 ]) m.2) m.1)))
        (Contains-append_cases (map deleting edit.deleted) (map adding edit.added) (adding f) there)

last_one-append : {A : Type 0} (value : A) (xs ys : List A)
    → last_one value (xs ++ ys) ≡ last_one (last_one value xs) ys
last_one-append value [] ys = refl
last_one-append value (x ∷ xs) ys = last_one-append x xs ys

is_same-refl : (at : LevelFile) → is_same_file at at ≡ true
is_same-refl at = search rules

-- what is added once is live
pub added_live : (edits : List Edit) (edit : Edit) (file : NewFile) → Contains edit.added file
    → AddsOnce edit → (live_after (edits ++ edit ∷ [])).file (level_file file) ≡ Some file
added_live edits edit file there once = (applies_in_order edits edit).file at
    ∙ ap (last_one ((live_after edits).file at))
    (filter_map-append (left_by at) (map deleting edit.deleted) (map adding edit.added))
    ∙ last_one-append ((live_after edits).file at)
    (filter_map (left_by at) (map deleting edit.deleted))
    (filter_map (left_by at) (map adding edit.added))
    ∙ ⊎_elim
    (λ (none : _ × _). absurd
    (true_is_false (is_same-refl at)
    (if_none (is_same_file at at) (Some file)
    (none.1 (adding file) (map_in adding edit.added file there)))))
    (λ (one : _ × _ × _). let m = in_map adding edit.added one.0 one.1 in
    let is = if_some (is_same_file (level_file m.0) at) (Some m.0) _
    (ap (left_by at) m.2 ∙ one.2) in
    sym is.1 ∙ ap (λ z. Some z) (once file m.0 there m.1 is.0))
    (left_of (left_by at) (map adding edit.added) start)
  where
    at : LevelFile
    at = level_file file

    start : Option NewFile
    start =
        last_one ((live_after edits).file at) (filter_map (left_by at) (map deleting edit.deleted))

-- ---- the tables

module _ (store : List ℕ) (cmp : List ℕ → List ℕ → Ordering)
    (IsTableOf : List ℕ → List Pair → Type 0) where
  -- After an edit the live tables are the new ones, which are the files that it adds, and those
  -- that it leaves alone.
  pub tables_then :
      (files : Files) (edits : List Edit) (edit : Edit) (ins news outs : List LiveTable)
      → HasTables store cmp IsTableOf files (live_after edits) ins
      → HasAddedTables store cmp IsTableOf files edit news → AreTablesAfter edit ins news outs
      → HasTables store cmp IsTableOf files (live_after (edits ++ edit ∷ [])) outs
  tables_then files edits edit ins news outs has new just = record {
    each = λ table c. ⊎_elim
        (λ (n : Contains news table). let h = new.each table n in
        (h.0, added_live edits edit table.file h.1 new.once, h.2))
        (λ (o : Contains ins table × LeavesAlone edit (level_file table.file)). let h =
        has.each table o.0 in
        (h.0, stays_live edits edit (level_file table.file) table.file h.1 o.1, h.2))
        ((just table).0 c);
    all = λ file live. ⊎_elim
        (λ (a : Contains edit.added file
        × (is_same_file (level_file file) (level_file file) ≡ true)). let t = new.all file a.0 in
        (t.0, (just t.0).1 (inl t.1), t.2))
        (λ (o : ((live_after edits).file (level_file file) ≡ Some file)
        × LeavesAlone edit (level_file file)).
        let t = has.all file o.0 in (
          t.0,
          (just t.0).1
              (inr (t.1, subst (λ (x : NewFile). LeavesAlone edit (level_file x)) (sym t.2) o.1)),
          t.2,
        ))
        (live_then edits edit (level_file file) file live);
  }
