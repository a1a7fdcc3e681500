-- A table of the store as a table in a file: its keys rise from the file's smallest to its largest.
use Rattle.std.specs.Prelude.{◌≢◌, Contains, IsSomeAnd}
use Rattle.std.proofs.Common.{◌≡◌, ⊎_elim, ℕ, ◌<◌, ◌^◌, true, List, [], ◌∷◌, ◌++◌, Option, Some, refl, sym, ◌∙◌, ap, subst, arith}
use Rattle.std.proofs.lemmas.List.Elements.{Contains-push}
use Rattle.std.specs.Cmp.{IsTotalOrder}
use Rattle.std.specs.Ordering.{nat_cmp, ordering_reverse, ordering_then}
use Rattle.std.specs.declared.cmp.Ordering.{Ordering}
use Rattle.std.specs.declared.cmp.Ordering.TheVariants.{Equal, Greater, Less}
use Rattle.leveldb_base.proofs.HistoryLemmas.{in_cases, in_none}
use Rattle.leveldb_base.specs.Cmp.{internal_accepts}
use Rattle.leveldb_base.specs.Entries.{entries_of_pairs}
use Rattle.leveldb_base.specs.History.{AreRising, IsBeforeAll}
use Rattle.leveldb_base.specs.KeyTypes.{internal_cmp, sequence_part, user_part}
use Rattle.leveldb_base.specs.Types.{Pair}
use Rattle.leveldb_env.specs.Env.{File, Files, bytes_of}
use Rattle.leveldb_table.specs.Block.{KeysRise, RiseAfter}
use Rattle.leveldb_version.proofs.Tables.NewestLemmas.{entries_are}
use Rattle.leveldb_version.proofs.Tables.TablesInTurnLemmas.{IsRun, of_all}
use Rattle.leveldb_files.specs.Stores.Batches.{Each}
use Rattle.leveldb_files.specs.Stores.Format.{IsTableOf, Meaning}
use Rattle.leveldb_files.specs.Levels.Levels.{LiveTable}
use Rattle.leveldb_files.specs.Stores.Paths.{table_path}
use Rattle.leveldb_files.specs.Stores.Store.{HasTable, IsInternalPair, any_user_key}
use Rattle.leveldb_version.specs.Tables.TableMoves.{FileTable, IsTableAt, table_pairs}

module _ {K : Type 0} {cmp : K → K → Ordering} (total : IsTotalOrder cmp) where
  -- of two keys one at most is before the other
  pub not_both : (a b : K) → cmp a b ≡ Less → cmp b a ≢ Less
  not_both a b first second = let never : Less ≡ Greater = sym second ∙ total.antisymm b a ∙ ap ordering_reverse first in cc

  -- and none before itself
  not_itself : (a : K) → cmp a a ≢ Less
  not_itself a less = not_both a a less less

first_less : (o p : Ordering) → ordering_then o p ≡ Less → o ≢ Greater
first_less Less p e = λ f. cc
first_less Equal p e = λ f. cc
first_less Greater p e = λ f. cc

module _ {cmp : List ℕ → List ℕ → Ordering} (total : IsTotalOrder cmp) where
  before_after : (key last : List ℕ) (pairs : List Pair) → cmp key last ≡ Less → RiseAfter cmp (Some last) pairs → IsBeforeAll cmp key pairs
  before_after key last [] less rise = tt
  before_after key last (pair ∷ pairs) less rise =
      let next = total.trans key last pair.0 less rise.0 in
      (next, before_after key pair.0 pairs next rise.1)

  rising_after : (last : List ℕ) (pairs : List Pair) → RiseAfter cmp (Some last) pairs → IsBeforeAll cmp last pairs × AreRising cmp pairs
  rising_after last [] rise = (tt, tt)
  rising_after last (pair ∷ pairs) rise = ((rise.0, before_after last pair.0 pairs rise.0 rise.1), rising_after pair.0 pairs rise.1)

  rising_all : (pairs : List Pair) → KeysRise cmp pairs → AreRising cmp pairs
  rising_all [] rise = tt
  rising_all (pair ∷ pairs) rise = rising_after pair.0 pairs rise

  -- each pair is at or before the last
  upto_last : (front : List Pair) (last : Pair) → AreRising cmp (front ++ last ∷ []) → (pair : Pair) → Contains (front ++ last ∷ []) pair → cmp last.0 pair.0 ≢ Less
  upto_last [] last rise pair c = ⊎_elim
      (λ (same : last ≡ pair). subst (λ (p : Pair). cmp last.0 p.0 ≢ Less) same (not_itself total last.0))
      (λ (none : Contains [] pair). absurd (in_none pair none))
      (in_cases last pair [] c)
  upto_last (first ∷ front) last rise pair c = ⊎_elim
      (λ (same : first ≡ pair). subst (λ (p : Pair). cmp last.0 p.0 ≢ Less) same (not_both total first.0 last.0 (first_before (front ++ last ∷ []) rise.0 (Contains-push front last))))
      (λ (later : Contains (front ++ last ∷ []) pair). upto_last front last rise.1 pair later)
      (in_cases first pair (front ++ last ∷ []) c)
    where
      first_before : (pairs : List Pair) → IsBeforeAll cmp first.0 pairs → Contains pairs last → cmp first.0 last.0 ≡ Less
      first_before [] all d = absurd (in_none last d)
      first_before (next ∷ pairs) all d = ⊎_elim
          (λ (same : next ≡ last). subst (λ (p : Pair). cmp first.0 p.0 ≡ Less) same all.0)
          (λ (rest : Contains pairs last). first_before pairs all.1 rest)
          (in_cases next last pairs d)

-- no user key is before the first
from_first : {cmp : List ℕ → List ℕ → Ordering} → IsTotalOrder cmp → (first : Pair) (rest : List Pair) → IsBeforeAll (internal_cmp cmp) first.0 rest → (pair : Pair) → Contains (first ∷ rest) pair
    → cmp (user_part pair.0) (user_part first.0) ≢ Less
from_first {cmp} total first rest all pair c = ⊎_elim
    (λ (same : first ≡ pair). subst (λ (p : Pair). cmp (user_part p.0) (user_part first.0) ≢ Less) same (not_itself total (user_part first.0)))
    (λ (later : Contains rest pair). by rest all later)
    (in_cases first pair rest c)
  where
    by : (pairs : List Pair) → IsBeforeAll (internal_cmp cmp) first.0 pairs → Contains pairs pair → cmp (user_part pair.0) (user_part first.0) ≢ Less
    by [] before d = absurd (in_none pair d)
    by (next ∷ pairs) before d = ⊎_elim
        (λ (same : next ≡ pair). subst (λ (p : Pair). cmp (user_part p.0) (user_part first.0) ≢ Less) same
        (λ less. first_less (cmp (user_part first.0) (user_part next.0)) (nat_cmp (sequence_part next.0) (sequence_part first.0)) before.0
        (total.antisymm (user_part first.0) (user_part next.0) ∙ ap ordering_reverse less)))
        (λ (rest : Contains pairs pair). by pairs before.1 rest)
        (in_cases next pair pairs d)

module _ {cmp : List ℕ → List ℕ → Ordering} (total : IsTotalOrder cmp) (keys_total : IsTotalOrder (internal_cmp cmp)) (meaning : Meaning) (store : List ℕ) (files : Files) (table : LiveTable)
    (has : HasTable store cmp (IsTableOf cmp meaning) files table) where
  -- the table in the file
  abbrev pub file_table : FileTable
  file_table = record { bytes = bytes_of has.file; parts = has.read.parts; largest = table.file.largest }

  pairs_are : has.pairs ≡ table_pairs file_table
  pairs_are = has.read.pairs_are

  rising : AreRising (internal_cmp cmp) has.pairs
  rising = rising_all keys_total has.pairs has.read.sorted

  accepted : (pair : Pair) → Contains (table_pairs file_table) pair → internal_accepts any_user_key pair.0 ≡ true
  accepted pair c = of_all (λ (p : Pair). internal_accepts any_user_key p.0 ≡ true) (table_pairs file_table) has.read.accepted.pairs pair c

  back : (pair : Pair) → Contains (table_pairs file_table) pair → Contains has.pairs pair
  back pair c = subst (λ ps. Contains ps pair) (sym pairs_are) c

  pub is_run : IsRun cmp table.file file_table
  is_run = record {
    rising = subst (AreRising (internal_cmp cmp)) pairs_are rising;
    accepted = accepted;
    line = accepted (table.file.largest, has.largest.1) (subst (λ ps. Contains ps (table.file.largest, has.largest.1)) (sym has.largest.2 ∙ pairs_are) (Contains-push has.largest.0 (table.file.largest, has.largest.1)));
    least = λ pair c. from_first total (table.file.smallest, has.smallest.0) has.smallest.1 (subst (AreRising (internal_cmp cmp)) has.smallest.2 rising).0 pair
        (subst (λ ps. Contains ps pair) has.smallest.2 (back pair c));
    upto = λ pair c. upto_last keys_total has.largest.0 (table.file.largest, has.largest.1) (subst (AreRising (internal_cmp cmp)) has.largest.2 rising) pair
        (subst (λ ps. Contains ps pair) has.largest.2 (back pair c));
    largest = refl;
  }

  pub same_entries : entries_of_pairs (table_pairs file_table) ≡ table.entries
  same_entries = ap entries_of_pairs (sym pairs_are) ∙ entries_are has.pairs table.entries has.each

  pub same_internal : Each IsInternalPair (table_pairs file_table) table.entries
  same_internal = subst (λ (ps : List Pair). Each IsInternalPair ps table.entries) pairs_are has.each

  pub is_table_at : table.file.size < 2 ^ 64 → IsTableAt cmp meaning files (table_path store table.file.number) file_table
  is_table_at small = record {
    there = record {
      there = subst (λ (o : Option File). IsSomeAnd o (λ file. bytes_of file ≡ bytes_of has.file)) (sym has.there) refl;
      fits = let size = has.size in omega (arith, size, small);
    };
    is = moved.0;
    parted = moved.1;
    last = (has.largest.0, has.largest.1, sym pairs_are ∙ has.largest.2);
  }
    where
      moved : (is : IsTableOf cmp meaning (bytes_of has.file) (table_pairs file_table)) × (is.parts ≡ has.read.parts)
      moved = subst (λ (ps : List Pair). (is : IsTableOf cmp meaning (bytes_of has.file) ps) × (is.parts ≡ has.read.parts)) pairs_are (has.read, refl)
