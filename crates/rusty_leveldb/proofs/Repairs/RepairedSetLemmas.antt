-- The entries of the tables that a repair left are a found set: no two different ones have one key
-- and one number.
use Rattle.std.specs.Prelude.{◌≢◌, Contains}
use Rattle.std.specs.Cmp.{IsTotalOrder, nat_cmp_total}
use Rattle.std.specs.Ordering.{nat_cmp, ordering_reverse, ordering_then}
use Rattle.std.specs.declared.cmp.Ordering.{Ordering}
use Rattle.std.specs.declared.cmp.Ordering.TheVariants.{Equal, Greater, Less}
use Rattle.std.proofs.Common.{◌≡◌, ◌∙◌, ⊎_elim, ℕ, List, [], ◌∷◌, Some, refl, sym, ap, subst}
use Rattle.leveldb_base.proofs.HistoryLemmas.{in_cases, in_none}
use Rattle.leveldb_base.specs.CmpLaws.{sequence_part-internal_key, user_part-internal_key}
use Rattle.leveldb_base.specs.History.{AreConsistent, AreRising, Entry, IsBeforeAll, IsFoundSet}
use Rattle.leveldb_base.specs.KeyTypes.{internal_cmp, sequence_part, user_part}
use Rattle.leveldb_base.specs.Types.{Pair}
use Rattle.leveldb_env.specs.Compressor.{Decodes}
use Rattle.leveldb_env.specs.Env.{Files}
use Rattle.leveldb_table.specs.Block.{KeysRise, RiseAfter}
use Rattle.leveldb_files.proofs.Stores.OneStoreLemmas.{in_flat, one_entry}
use Rattle.leveldb_version.proofs.Versions.PairwiseLemmas.{each_second}
use Rattle.leveldb_version.proofs.Versions.SearchLemmas.{same_or_not}
use Rattle.leveldb_files.proofs.Levels.TablesLemmas.{tables_bounded}
use Rattle.leveldb_version.proofs.Versions.VersionLemmas.{internal_total}
use Rattle.leveldb_files.specs.Stores.Format.{IsTableOf, Meaning}
use Rattle.leveldb_files.specs.Levels.Levels.{AreDisjoint, IsInRange, LiveTable, table_entries}
use Rattle.leveldb_version_set.specs.Repairs.Repairing.{AreLevelOne, HasRepairedTables}
use Rattle.leveldb_files.specs.Stores.Store.{HasTable, IsInternalPair, SameEntries}

-- ---- rising pairs

module _ {K : Type 0} {cmp : K → K → Ordering} (total : IsTotalOrder cmp) where
  -- nothing is before itself
  not_itself : (a : K) → cmp a a ≢ Less
  not_itself a less = let never : Less ≡ Greater =
      sym less ∙ total.antisymm a a ∙ ap ordering_reverse less in cc

  -- what is before a second is before each that isn't before that
  before_later : (a b c : K) → cmp a b ≡ Less → cmp c b ≢ Less → cmp a c ≡ Less
  before_later a b c less not = by (cmp c b) refl
    where
      by : (o : Ordering) → cmp c b ≡ o → cmp a c ≡ Less
      by Less is = absurd (not is)
      by Equal is = total.antisymm a c ∙ ap ordering_reverse (total.congr c b a is
          ∙ total.antisymm b a ∙ ap ordering_reverse less)
      by Greater is = total.trans a b c less (total.antisymm b c ∙ ap ordering_reverse is)

module _ {cmp : List ℕ → List ℕ → Ordering} (total : IsTotalOrder cmp) where
  before_after : (key last : List ℕ) (pairs : List Pair) → cmp key last ≡ Less
      → RiseAfter cmp (Some last) pairs → IsBeforeAll cmp key pairs
  before_after key last [] less rise = tt
  before_after key last (pair ∷ pairs) less rise =
      let next = total.trans key last pair.0 less rise.0 in
      (next, before_after key pair.0 pairs next rise.1)

  rising_after : (last : List ℕ) (pairs : List Pair) → RiseAfter cmp (Some last) pairs
      → IsBeforeAll cmp last pairs × AreRising cmp pairs
  rising_after last [] rise = (tt, tt)
  rising_after last (pair ∷ pairs) rise = (
    (rise.0, before_after last pair.0 pairs rise.0 rise.1),
    rising_after pair.0 pairs rise.1,
  )

  -- keys that rise one after another are rising
  rising_all : (pairs : List Pair) → KeysRise cmp pairs → AreRising cmp pairs
  rising_all [] rise = tt
  rising_all (pair ∷ pairs) rise = rising_after pair.0 pairs rise

  in_before : (key : List ℕ) (pairs : List Pair) → IsBeforeAll cmp key pairs → (pair : Pair)
      → Contains pairs pair → cmp key pair.0 ≡ Less
  in_before key [] before pair c = absurd (in_none pair c)
  in_before key (first ∷ pairs) before pair c = ⊎_elim
      (λ (is : first ≡ pair). subst (λ (p : Pair). cmp key p.0 ≡ Less) is before.0)
      (λ (rest : Contains pairs pair). in_before key pairs before.1 pair rest)
      (in_cases first pair pairs c)

  -- of rising pairs those are one of which neither is before the other
  one_pair : (pairs : List Pair) → AreRising cmp pairs → (p q : Pair) → Contains pairs p
      → Contains pairs q → cmp p.0 q.0 ≢ Less → cmp q.0 p.0 ≢ Less → p ≡ q
  one_pair [] rise p q c d not back = absurd (in_none p c)
  one_pair (first ∷ pairs) rise p q c d not back = ⊎_elim
      (λ (is : first ≡ p). ⊎_elim
      (λ (same : first ≡ q). sym is ∙ same)
      (λ (later : Contains pairs q). absurd (not
      (subst (λ (x : Pair). cmp x.0 q.0 ≡ Less) is (in_before first.0 pairs rise.0 q later))))
      (in_cases first q pairs d))
      (λ (rest : Contains pairs p). ⊎_elim
      (λ (same : first ≡ q). absurd (back
      (subst (λ (x : Pair). cmp x.0 p.0 ≡ Less) same (in_before first.0 pairs rise.0 p rest))))
      (λ (later : Contains pairs q). one_pair pairs rise.1 p q rest later not back)
      (in_cases first q pairs d))
      (in_cases first p pairs c)

not_then : (o p : Ordering) → o ≢ Less → p ≢ Less → ordering_then o p ≢ Less
not_then Less p first second less = first refl
not_then Equal p first second less = second less
not_then Greater p first second less = let never : Greater ≡ Less = less in cc

-- ---- entries

module _ (store : List ℕ) (cmp : List ℕ → List ℕ → Ordering) (total : IsTotalOrder cmp)
    (meaning : Meaning) (files : Files) (tables : List LiveTable)
    (are : AreLevelOne store cmp (IsTableOf cmp meaning) files tables) where
  abbrev Has : LiveTable → Type 0
  Has table = HasTable store cmp (IsTableOf cmp meaning) files table

  -- of internal keys of one user key and one number neither is before the other
  not_before : (a b : Pair) (p q : Entry) → IsInternalPair a p → IsInternalPair b q
      → p.key ≡ q.key → p.sequence ≡ q.sequence → internal_cmp cmp a.0 b.0 ≢ Less
  not_before a b p q of_p of_q key number less =
      let user : user_part a.0 ≡ user_part b.0 = ap user_part of_p.key
      ∙ user_part-internal_key p.key p.sequence of_p.kind ∙ key
      ∙ sym (ap user_part of_q.key ∙ user_part-internal_key q.key q.sequence of_q.kind) in
      let count : sequence_part a.0 ≡ sequence_part b.0 = ap sequence_part of_p.key
      ∙ sequence_part-internal_key p.key p.sequence of_p.kind of_p.fits ∙ number
      ∙ sym (ap sequence_part of_q.key
      ∙ sequence_part-internal_key q.key q.sequence of_q.kind of_q.fits) in
      let u = user_part b.0 in
      let n = sequence_part b.0 in
      let same : internal_cmp cmp a.0 b.0 ≡ ordering_then (cmp u u) (nat_cmp n n) =
      λ i. ordering_then (cmp (user i) u) (nat_cmp n (count i)) in
      not_then (cmp u u) (nat_cmp n n) (not_itself total u) (not_itself nat_cmp_total n)
      (sym same ∙ less)

  one_in_table : (table : LiveTable) → Has table → (p q : Entry) → Contains table.entries p
      → Contains table.entries q → p.key ≡ q.key → p.sequence ≡ q.sequence → p ≡ q
  one_in_table table h p q c d key number =
      let a = each_second IsInternalPair h.pairs table.entries p h.each c in
      let b = each_second IsInternalPair h.pairs table.entries q h.each d in
      let same = one_pair (internal_total total) h.pairs
      (rising_all (internal_total total) h.pairs h.read.sorted) a.0 b.0 a.1 b.1
      (not_before a.0 b.0 p q a.2 b.2 key number)
      (not_before b.0 a.0 q p b.2 a.2 (sym key) (sym number)) in
      one_entry b.0 p q (subst (λ (x : Pair). IsInternalPair x p) same a.2) b.2

  in_range : (table : LiveTable) → Has table → (p : Entry) → Contains table.entries p
      → IsInRange cmp table.file p.key
  in_range table h p c =
      (tables_bounded cmp total (Decodes meaning.codings) meaning.filters store files table h).within
      p c

  -- no key is in two tables
  not_in_both : (a b : LiveTable) (key : List ℕ) → AreDisjoint cmp a.file b.file
      → IsInRange cmp a.file key → IsInRange cmp b.file key → ⊥
  not_in_both a b key apart in_a in_b = ⊎_elim
      (λ (before : cmp (user_part a.file.largest) (user_part b.file.smallest) ≡ Less).
      in_a.to (before_later total (user_part a.file.largest) (user_part b.file.smallest) key before
      in_b.from))
      (λ (before : cmp (user_part b.file.largest) (user_part a.file.smallest) ≡ Less).
      in_b.to (before_later total (user_part b.file.largest) (user_part a.file.smallest) key before
      in_a.from))
      apart

  -- no two different entries of these tables have one key and one number
  pub tables_consistent : AreConsistent (table_entries tables)
  tables_consistent p q in_p in_q key number =
      let a = in_flat (λ (table : LiveTable). table.entries) tables p in_p in
      let b = in_flat (λ (table : LiveTable). table.entries) tables q in_q in
      let one = are.each a.0 a.1 in
      let other = are.each b.0 b.1 in ⊎_elim
      (λ (same : a.0.file.number ≡ b.0.file.number).
      let table = are.known a.0 b.0 a.1 b.1 (one.2 ∙ sym other.2) same in
      one_in_table b.0 other.0 p q (subst (λ (t : LiveTable). Contains t.entries p) table a.2) b.2
      key number)
      (λ (differ : a.0.file.number ≢ b.0.file.number). absurd (not_in_both a.0 b.0 q.key
      (are.apart a.0 b.0 a.1 b.1 differ)
      (subst (IsInRange cmp a.0.file) key (in_range a.0 one.0 p a.2))
      (in_range b.0 other.0 q b.2)))
      (same_or_not a.0.file.number b.0.file.number)

-- the same entries in another list are a found set
pub repaired_set : (store : List ℕ) (cmp : List ℕ → List ℕ → Ordering) → IsTotalOrder cmp
    → (meaning : Meaning) (files : Files) (manifest next last : ℕ) (tables : List LiveTable)
    → HasRepairedTables store cmp (IsTableOf cmp meaning) manifest next last tables files
    → (found : List Entry) → SameEntries (table_entries tables) found → IsFoundSet found
repaired_set store cmp total meaning files manifest next last tables has found same = record {
  numbered = λ entry c. has.numbered entry ((same entry).1 c);
  one = λ p q in_p in_q. tables_consistent store cmp total meaning files tables has.level_one p q
      ((same p).1 in_p) ((same q).1 in_q);
}
