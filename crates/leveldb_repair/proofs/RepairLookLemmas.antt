-- A look over a walk that is over all that is found: why it fails, and what is known of the walk after it.
use Rattle.std.specs.Prelude.{Contains, IsTrue}
use Rattle.std.proofs.Common.{◌≡◌, ◌≢◌, ◌∙◌, ◌⊎◌, inl, inr, ⊎_elim, ◌<◌, ◌^◌, Bool, ℕ, List, Err, ap, arith, subst, sym}
use Rattle.std.proofs.lemmas.List.Elements.{All-contains}
use Rattle.std.specs.declared.cmp.Ordering.{Ordering}
use Rattle.std.specs.declared.cmp.Ordering.TheVariants.{Equal}
use Rattle.leveldb_base.proofs.EntriesLemmas.{internal_is_total, map_in}
use Rattle.leveldb_base.specs.Cmp.{IsExactOrder, IsPreorderOn}
use Rattle.leveldb_base.specs.Entries.{entries_of_pairs, entry_of_pair}
use Rattle.leveldb_base.specs.Error.{IsOutOfMemory}
use Rattle.leveldb_base.specs.KeyTypes.{internal_cmp}
use Rattle.leveldb_base.specs.Types.{Pair}
use Rattle.leveldb_base.specs.declared.cmp.Cmp.{Ghosts as CmpGhosts}
use Rattle.leveldb_base.specs.declared.error.Status.{Status}
use Rattle.leveldb_base.specs.declared.error.StatusCode.TheVariants.{Corruption, OutOfMemory}
use Rattle.leveldb_env.specs.Env.{Files}
use Rattle.leveldb_env.specs.declared.env.Env.{Ghosts as EnvGhosts}
use Rattle.leveldb_env.specs.declared.filter.FilterPolicy.{Ghosts as FilterGhosts}
use Rattle.leveldb_iter.specs.Merge.{IsPairOf}
use Rattle.leveldb_iter.specs.Walk.{KeyOrder, key_order}
use Rattle.leveldb_iter.specs.declared.walk.Walk.{Ghosts as WalkGhosts}
use Rattle.leveldb_table.specs.TableBlock.{HasLackCode}
use Rattle.leveldb_files.proofs.Stores.OneStoreLemmas.{flat_in}
use Rattle.leveldb_files.specs.Stores.Format.{Agrees, Format, Meaning}
use Rattle.leveldb_version_set.specs.Repairs.Found.{IsAnyTable, IsFound}
use Rattle.leveldb_store.specs.Tables.BuildTable.{TableChoices}
use Rattle.leveldb_repair.proofs.RepairClashLemmas.{AreUnlikeDeletions, HaveClash, clash_differs}
use Rattle.leveldb_repair.proofs.RepairMergeLemmas.{AreOfEntries, listed_of_entry}
use Rattle.leveldb_repair.proofs.RepairWalksLemmas.{look_over_fails}
use Rattle.leveldb_repair.proofs.RepairStoreLemmas.{decodes_by, leaves_then, not_repaired}
use Rattle.leveldb_repair.specs.FoundTables.{AreNumberedPairs}
use Rattle.leveldb_repair.specs.LookOver.{LooksOver}
use Rattle.leveldb_repair.specs.FoundWalkTable.{FailsBetweenOr}
use Rattle.leveldb_repair.specs.RepairSteps.{HaveFound, IsOverFound, NamesClash}
use Rattle.leveldb_repair.specs.RepairStore.{HasClash, HasUnlikeDeletions, RepairsStore}

-- an order in which equal keys are the same makes a preorder of internal keys
pub internal_preorder : {accepts : List ℕ → Bool} {cmp : List ℕ → List ℕ → Ordering}
    → IsExactOrder cmp → IsPreorderOn accepts (internal_cmp cmp)
internal_preorder {cmp = cmp} exact =
    let total = internal_is_total cmp exact in
    record {
      turned = λ a b p q. total.antisymm a b;
      less = λ a b c p q r. total.trans a b c;
      alike = λ a b c p q r. total.congr a b c;
    }

-- ---- lists that have what is found

module _ (store : List ℕ) (format : Format) (files : Files) (exact : IsExactOrder format.order)
    (order : KeyOrder) (cmp_is : order.cmp ≡ internal_cmp format.order)
    (lists : List (List Pair)) (have : HaveFound store format files lists) where
  one_numbered : (list : List Pair) → Contains lists list → AreNumberedPairs list
  one_numbered list there = All-contains AreNumberedPairs lists list have.numbered there

  of_entries : (list : List Pair) → Contains lists list → AreOfEntries list
  of_entries list there = (one_numbered list there).each

  -- a pair's entry is found
  entry_found : (meaning : Meaning) → Agrees format meaning → (pair : Pair) → IsPairOf lists pair
      → IsFound store (IsAnyTable format.order meaning) files (entry_of_pair pair)
  entry_found meaning agrees pair any = (have.found meaning (decodes_by agrees) (entry_of_pair pair)).0
      (flat_in entries_of_pairs lists any.1 (entry_of_pair pair) (any.0, any.2, any.3)
      (map_in entry_of_pair any.1 pair any.4))

  -- two pairs of one key are a clash of what is found
  pub found_clash : HaveClash order lists → (meaning : Meaning) → Agrees format meaning
      → HasClash store files (IsAnyTable format.order meaning)
      ⊎ HasUnlikeDeletions store files (IsAnyTable format.order meaning)
  found_clash clash meaning agrees =
      let differs = clash_differs exact clash.one clash.other
      (listed_of_entry lists of_entries clash.one clash.one_there)
      (listed_of_entry lists of_entries clash.other clash.other_there)
      (subst (λ (o : List ℕ → List ℕ → Ordering). o clash.one.0 clash.other.0 ≡ Equal) cmp_is
      clash.equal)
      clash.differ in
      ⊎_elim
      (λ (values : (entry_of_pair clash.one).value ≢ (entry_of_pair clash.other).value).
      inl (record {
        one = entry_of_pair clash.one;
        other = entry_of_pair clash.other;
        one_found = entry_found meaning agrees clash.one clash.one_there;
        other_found = entry_found meaning agrees clash.other clash.other_there;
        key = differs.key;
        sequence = differs.number;
        differ = values;
      }))
      (λ (unlike : AreUnlikeDeletions clash.one clash.other). inr (record {
        one = clash.one;
        other = clash.other;
        one_found = have.pairs meaning agrees clash.one clash.one_there;
        other_found = have.pairs meaning agrees clash.other clash.other_there;
        same = unlike.same;
        deletes = unlike.deletes;
        differ = unlike.bytes;
      }))
      differs.differ

-- ---- the look

module _ {C FP : Type 0} {order : CmpGhosts C} {filters : FilterGhosts FP}
    (choices : TableChoices order filters) {E F T W : Type 0} (env : EnvGhosts E F)
    (store : List ℕ) (taken : ℕ) (walk : WalkGhosts W E T)
    (exact : IsExactOrder choices.format.order)
    (preorder : IsPreorderOn (order.accepts choices.cmp) (order.cmp choices.cmp))
    (cmp_is : order.cmp choices.cmp ≡ internal_cmp choices.format.order) {start : E × T} {it : W}
    (found : IsOverFound choices env store taken walk start it) where
  -- it comes to no end: nothing is repaired, whatever text its error is given
  pub unlooked : ((state : E) → env.failures state < 2 ^ 64) → {status named : Status}
      {end : E × T} {later : E} {now : W} → LooksOver walk start it (Err status) end now
      → NamesClash env end.0 status named later
      → RepairsStore choices env store start.0 (Err named) later
  unlooked counts {status} {named} {end} {later} looks names = not_repaired choices env store
      (leaves_then env (found.moves start end looks.kept) names.leaves)
      (named_fails (⊎_elim
      (λ (clash : (status.code ≡ Corruption) × (lists : List (List Pair))
      × HaveFound store choices.format (env.observed start.0).disk.files lists
      × HaveClash (key_order order choices.cmp) lists).
      inr (inr (inl (
        named_code clash.0,
        λ modelled. found_clash store choices.format
            (env.observed start.0).disk.files exact (key_order order choices.cmp) cmp_is clash.1
            clash.2 clash.3,
      ))))
      (λ (lacks : HasLackCode env choices.format.codings status
      × (IsTrue env.models_disk → ⊥)).
      inr (inr (inr (inr (named_lacks lacks.0, λ modelled. absurd (lacks.1 modelled)))))))
      (look_over_fails choices env store taken walk preorder cmp_is found looks))
    where
      named_code : status.code ≡ Corruption → named.code ≡ Corruption
      named_code is = ⊎_elim
          (λ (same : named ≡ status). ap (λ (s : Status). s.code) same ∙ is)
          (λ (both : (status.code ≡ Corruption) × (named.code ≡ Corruption)). both.1) names.is

      named_lacks : HasLackCode env choices.format.codings status
          → HasLackCode env choices.format.codings named
      named_lacks lacks = ⊎_elim
          (λ (same : named ≡ status).
          subst (λ (s : Status). HasLackCode env choices.format.codings s) (sym same) lacks)
          (λ (both : (status.code ≡ Corruption) × (named.code ≡ Corruption)). inl both.1) names.is

      named_memory : IsOutOfMemory status → IsOutOfMemory named
      named_memory memory = ⊎_elim
          (λ (same : named ≡ status). subst IsOutOfMemory (sym same) memory)
          (λ (both : (status.code ≡ Corruption) × (named.code ≡ Corruption)).
          let never : OutOfMemory ≡ Corruption = sym memory.0 ∙ both.0 in absurd (cc)) names.is

      named_fails : {These Those : Type 0} → (These → Those)
          → FailsBetweenOr env These start.0 end.0 status
          → FailsBetweenOr env Those start.0 later named
      named_fails along (inl memory) = inl (named_memory memory)
      named_fails along (inr (inl more)) =
          let counted = names.leaves.later in inr (inl (omega (arith, more, counted)))
      named_fails along (inr (inr (inl most))) =
          let counted = names.leaves.later in
          inr (inr (inl (omega (arith, most, counted, counts later))))
      named_fails along (inr (inr (inr why))) = inr (inr (inr (along why)))
