-- Tables whose user keys rise from one to the next are one list that rises.
use Rattle.std.specs.Prelude.{◌≢◌, Contains}
use Rattle.std.proofs.Common.{◌≡◌, ⊎_elim, ℕ, Bool, true, false, List, [], ◌∷◌, ◌++◌, refl, ap, subst}
use Rattle.std.proofs.lemmas.List.Elements.{Contains-append_cases}
use Rattle.std.specs.Cmp.{IsTotalOrder}
use Rattle.std.specs.List.{AllByRecursion}
use Rattle.std.specs.Ordering.{is_lt, nat_cmp, ordering_then}
use Rattle.std.specs.declared.cmp.Ordering.{Ordering}
use Rattle.std.specs.declared.cmp.Ordering.TheVariants.{Equal, Greater, Less}
use Rattle.leveldb_base.proofs.HistoryLemmas.{all_after, each_after, in_cases, in_front, in_none, in_rest}
use Rattle.leveldb_base.specs.Cmp.{internal_accepts}
use Rattle.leveldb_base.specs.History.{AreRising}
use Rattle.leveldb_base.specs.KeyTypes.{internal_cmp, sequence_part, user_part}
use Rattle.leveldb_base.specs.Types.{Pair}
use Rattle.leveldb_table.specs.Table.{AreAccepted, AreParted}
use Rattle.leveldb_table.specs.TableReader.{pairs_in}
use Rattle.leveldb_files.proofs.Levels.LevelsLemmas.{none_before}
use Rattle.leveldb_files.specs.Stores.Batches.{Each}
use Rattle.leveldb_files.specs.Stores.Store.{any_user_key}
use Rattle.leveldb_version.specs.Tables.TableMoves.{FileTable, table_pairs}
use Rattle.leveldb_files.specs.Edits.Edit.{NewFile}
use Rattle.leveldb_version.specs.Walks.VersionIter.{table_parts}

-- what holds of each element
pub all_of : {A : Type 0} (P : A → Type 0) (xs : List A) → ((x : A) → Contains xs x → P x) → AllByRecursion P xs
all_of P [] each = tt
all_of P (x ∷ xs) each = (each x (in_front x xs), all_of P xs (λ y c. each y (in_rest x y xs c)))

pub of_all : {A : Type 0} (P : A → Type 0) (xs : List A) → AllByRecursion P xs → (x : A) → Contains xs x → P x
of_all P [] all x c = absurd (in_none x c)
of_all P (y ∷ xs) all x c = ⊎_elim
    (λ (same : y ≡ x). subst P same all.0)
    (λ (rest : Contains xs x). of_all P xs all.1 x rest)
    (in_cases y x xs c)

decided : {A : Type 0} (b : Bool) → b ≡ true → b ≡ false → A
decided b t f = cc

is_true : (b : Bool) → (b ≡ false → ⊥) → b ≡ true
is_true true h = refl
is_true false h = absurd (h refl)

not_less : (o : Ordering) → o ≢ Less → is_lt o ≡ false
not_less Less h = absurd (h refl)
not_less Equal h = refl
not_less Greater h = refl

less : (o : Ordering) → is_lt o ≡ true → o ≡ Less
less Less t = refl
less Equal t = cc
less Greater t = cc

less_first : (o rest : Ordering) → o ≡ Less → ordering_then o rest ≡ Less
less_first o rest e = ap (λ z. ordering_then z rest) e

-- lists that rise, all keys of the first before those of the second
pub rising_append : (cmp : List ℕ → List ℕ → Ordering) (xs ys : List Pair) → AreRising cmp xs → AreRising cmp ys
    → ((a b : Pair) → Contains xs a → Contains ys b → cmp a.0 b.0 ≡ Less) → AreRising cmp (xs ++ ys)
rising_append cmp [] ys first second before = second
rising_append cmp (x ∷ xs) ys first second before = (
  all_after cmp x.0 (xs ++ ys) (λ q c. ⊎_elim
      (λ (here : Contains xs q). less (cmp x.0 q.0) (each_after cmp x.0 xs q first.0 here))
      (λ (there : Contains ys q). before x q (in_front x xs) there)
      (Contains-append_cases xs ys q c)),
  rising_append cmp xs ys first.1 second (λ a b c d. before a b (in_rest x a xs c) d),
)

module _ {cmp : List ℕ → List ℕ → Ordering} (total : IsTotalOrder cmp) where
  -- what is before a key is before what isn't before that key
  pub before_upto : (a b c : List ℕ) → cmp a b ≡ Less → cmp c b ≢ Less → cmp a c ≡ Less
  before_upto a b c first upto = less (cmp a c)
      (is_true (is_lt (cmp a c)) (λ other. decided (is_lt (cmp a b)) (ap is_lt first) (none_before cmp total b c a (not_less (cmp c b) upto) other)))

  -- and what isn't after a key is before all that the key is before
  pub upto_before : (a b c : List ℕ) → cmp b a ≢ Less → cmp b c ≡ Less → cmp a c ≡ Less
  upto_before a b c upto last = less (cmp a c)
      (is_true (is_lt (cmp a c)) (λ other. decided (is_lt (cmp b c)) (ap is_lt last) (none_before cmp total c a b other (not_less (cmp b a) upto))))

-- a file's table: its keys rise and are internal keys, from the file's smallest to its largest
pub record IsRun (cmp : List ℕ → List ℕ → Ordering) (file : NewFile) (table : FileTable) : Type 0 where
  pub rising : AreRising (internal_cmp cmp) (table_pairs table)
  pub accepted : (pair : Pair) → Contains (table_pairs table) pair → internal_accepts any_user_key pair.0 ≡ true
  pub line : internal_accepts any_user_key table.largest ≡ true
  pub least : (pair : Pair) → Contains (table_pairs table) pair → cmp (user_part pair.0) (user_part file.smallest) ≢ Less
  pub upto : (pair : Pair) → Contains (table_pairs table) pair → internal_cmp cmp table.largest pair.0 ≢ Less
  pub largest : file.largest ≡ table.largest

-- the user keys of each file end before those of all later ones begin
abbrev pub AreInTurn : (List ℕ → List ℕ → Ordering) → List NewFile → Type 0
AreInTurn cmp [] = Unit {0}
AreInTurn cmp (file ∷ files) =
    ((later : NewFile) → Contains files later → cmp (user_part file.largest) (user_part later.smallest) ≡ Less) × AreInTurn cmp files

-- a pair of tables is one of a table
pub in_table : {cmp : List ℕ → List ℕ → Ordering} (files : List NewFile) (tables : List FileTable) → Each (IsRun cmp) files tables → (pair : Pair) → Contains (pairs_in (table_parts tables)) pair
    → (file : NewFile) × (table : FileTable) × Contains files file × IsRun cmp file table × Contains (table_pairs table) pair
in_table [] [] each pair c = absurd (in_none pair c)
in_table [] (t ∷ ts) each pair c = absurd each
in_table (f ∷ fs) [] each pair c = absurd each
in_table {cmp = cmp} (f ∷ fs) (t ∷ ts) each pair c = ⊎_elim
    (λ (here : Contains (table_pairs t) pair). (f, t, in_front f fs, each.0, here))
    (λ (there : Contains (pairs_in (table_parts ts)) pair). let rest = in_table {cmp = cmp} fs ts each.1 pair there in (rest.0, rest.1, in_rest f rest.0 fs rest.2, rest.3, rest.4))
    (Contains-append_cases (table_pairs t) (pairs_in (table_parts ts)) pair c)

module _ {cmp : List ℕ → List ℕ → Ordering} (total : IsTotalOrder cmp) (keys_total : IsTotalOrder (internal_cmp cmp)) where
  -- the last key of a table is before all keys of a later one
  last_before : (f g : NewFile) (t u : FileTable) → IsRun cmp f t → IsRun cmp g u → cmp (user_part f.largest) (user_part g.smallest) ≡ Less
      → (pair : Pair) → Contains (table_pairs u) pair → internal_cmp cmp t.largest pair.0 ≡ Less
  last_before f g t u is_f is_g before pair c =
      less_first (cmp (user_part t.largest) (user_part pair.0)) (nat_cmp (sequence_part pair.0) (sequence_part t.largest))
      (subst (λ key. cmp (user_part key) (user_part pair.0) ≡ Less) is_f.largest
      (before_upto total (user_part f.largest) (user_part g.smallest) (user_part pair.0) before (is_g.least pair c)))

  pub turns_rise : (files : List NewFile) (tables : List FileTable) → Each (IsRun cmp) files tables → AreInTurn cmp files → AreRising (internal_cmp cmp) (pairs_in (table_parts tables))
  turns_rise [] [] each turn = tt
  turns_rise [] (t ∷ ts) each turn = absurd each
  turns_rise (f ∷ fs) [] each turn = absurd each
  turns_rise (f ∷ fs) (t ∷ ts) each turn =
      rising_append (internal_cmp cmp) (table_pairs t) (pairs_in (table_parts ts)) each.0.rising (turns_rise fs ts each.1 turn.1)
      (λ a b c d. let from = in_table {cmp = cmp} fs ts each.1 b d in
      upto_before keys_total a.0 t.largest b.0 (each.0.upto a c) (last_before f from.0 t from.1 each.0 from.3 (turn.0 from.0 from.2) b from.4))

  pub turns_parted : (files : List NewFile) (tables : List FileTable) → Each (IsRun cmp) files tables → AreInTurn cmp files → AreParted (internal_cmp cmp) (table_parts tables)
  turns_parted [] [] each turn = tt
  turns_parted [] (t ∷ ts) each turn = absurd each
  turns_parted (f ∷ fs) [] each turn = absurd each
  turns_parted (f ∷ []) (t ∷ []) each turn = all_of (λ (pair : Pair). internal_cmp cmp t.largest pair.0 ≢ Less) (table_pairs t) each.0.upto
  turns_parted (f ∷ []) (t ∷ u ∷ ts) each turn = absurd each.1
  turns_parted (f ∷ g ∷ fs) (t ∷ []) each turn = absurd each.1
  turns_parted (f ∷ g ∷ fs) (t ∷ u ∷ ts) each turn = (
    all_of (λ (pair : Pair). internal_cmp cmp t.largest pair.0 ≢ Less) (table_pairs t) each.0.upto,
    all_of (λ (pair : Pair). internal_cmp cmp t.largest pair.0 ≡ Less) (table_pairs u) (last_before f g t u each.0 each.1.0 (turn.0 g (in_front g fs))),
    turns_parted (g ∷ fs) (u ∷ ts) each.1 turn.1,
  )

-- all keys are internal keys
pub turns_accepted : (cmp : List ℕ → List ℕ → Ordering) (accepts : List ℕ → Bool) → ((key : List ℕ) → internal_accepts any_user_key key ≡ true → accepts key ≡ true)
    → (files : List NewFile) (tables : List FileTable) → Each (IsRun cmp) files tables → AreAccepted accepts (table_parts tables)
turns_accepted cmp accepts takes files tables each = record {
  pairs = all_of (λ (pair : Pair). accepts pair.0 ≡ true) (pairs_in (table_parts tables))
      (λ pair c. let from = in_table {cmp = cmp} files tables each pair c in takes pair.0 (from.3.accepted pair from.4));
  lines = lines files tables each;
}
  where
    lines : (fs : List NewFile) (ts : List FileTable) → Each (IsRun cmp) fs ts → AllByRecursion (λ part. accepts part.index_key ≡ true) (table_parts ts)
    lines [] [] e = tt
    lines [] (t ∷ ts) e = absurd e
    lines (f ∷ fs) [] e = absurd e
    lines (f ∷ fs) (t ∷ ts) e = (takes t.largest e.0.line, lines fs ts e.1)
