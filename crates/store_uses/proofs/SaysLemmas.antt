-- What follows of calls that say what they do, whatever relations show the store.
use Rattle.std.proofs.Common.{⊎_elim, ◌≡◌, ◌⊎◌, ℕ, List, [], ◌∷◌, ◌++◌, length, sym, ◌∙◌, ap, subst, true, Option, Some, None, Ok, Err, Result, IfOk, IsErrAnd, option_to_list, ◌+◌, ◌≢◌, IsTrue}
use Rattle.std.proofs.lemmas.List.{append-nil, map-append}
use Rattle.std.proofs.lemmas.List.Elements.{All-nil}
use Rattle.std.specs.declared.cmp.Ordering.{Ordering}
use Rattle.leveldb_base.specs.History.{Item}
use Rattle.leveldb_mem.specs.WriteBatch.{item_of}
use Rattle.leveldb_env.specs.declared.env.Env.{Ghosts}
use Rattle.leveldb_files.specs.Stores.Format.{Format, Meaning}
use Rattle.rusty_leveldb.specs.Headline.{Batch, StoreMode, UserStore, map_of, fresh_store, is_open, is_broken, is_closed, open_store, write, get, KeyChange, done, found, CallRow}
use Rattle.rusty_leveldb.specs.HeadlineLaws.{LaterEntryWins}
use Rattle.rusty_leveldb.specs.Says.{Showing, DoneOr, FoundOr, Says, SaysOpened}
use Rattle.rusty_leveldb.specs.Machines.Shown.{changes_of}
use Rattle.store_uses.specs.Held.{IsHeld, IsValueHeld}

-- an error has no value of which anything is said
pub nothing_found : {T S : Type 0} (Q : S → Type 0) (P : T → Type 0) (result : Result T S)
    → IsErrAnd result Q → IfOk result P
nothing_found Q P (Ok value) never = absurd never
nothing_found Q P (Err status) was = tt

-- ---- rows of calls that are done

module _ (order : List ℕ → List ℕ → Ordering) where
  -- the batches of a store that was opened
  opened_row : (mode : StoreMode) (old new : UserStore) → CallRow order mode old open_store done new
      → (all : List Batch)
      × ((all ≡ old.batches) ⊎ (all ≡ old.batches ++ option_to_list old.pending))
      × (new ≡ fresh_store all old.durable is_open)
  opened_row is_open old new row = absurd row
  opened_row is_broken old new row = absurd row
  opened_row is_closed old new row = row.1

  -- the store of these batches, open and all durable
  written_row : (all : List Batch) (durable : ℕ) (batch : Batch) (old new : UserStore)
      → old ≡ fresh_store all durable is_open
      → CallRow order old.mode old (write batch true) done new
      → new ≡ fresh_store (all ++ batch ∷ []) (length all + 1) is_open
  written_row all durable batch old new is row =
      let r : CallRow order is_open (fresh_store all durable is_open) (write batch true) done new =
      subst (λ (s : UserStore). CallRow order s.mode s (write batch true) done new) is row in
      r.1

  -- a look-up finds what the map has, and changes nothing
  found_row : (all : List Batch) (durable : ℕ) (key : List ℕ) (value : Option (List ℕ))
      (old new : UserStore) → old ≡ fresh_store all durable is_open
      → CallRow order old.mode old (get None key) (found value) new
      → (value ≡ map_of all key) × (new ≡ fresh_store all durable is_open)
  found_row all durable key value old new is row =
      let r : CallRow order is_open (fresh_store all durable is_open) (get None key) (found value)
      new = subst (λ (s : UserStore). CallRow order s.mode s (get None key) (found value) new) is
      row in
      (r.1.3 ∙ ap (λ shown. map_of shown key) r.1.2, r.1.0)

-- the value that was put last into the last batch is the key's
last_is_found : LaterEntryWins → (all : List Batch) (before items : List Item)
    (key value : List ℕ) → items ≡ before ++ item_of key (Some value) ∷ []
    → map_of (all ++ changes_of items ∷ []) key ≡ Some value
last_is_found wins all before items key value added =
    let change : KeyChange = record { key = key; value = Some value } in
    let is : changes_of items ≡ changes_of before ++ change ∷ [] =
    ap changes_of added ∙ map-append (λ (item : Item). record { key = item.key; value = item.value }) before (item_of key (Some value) ∷ []) in
    ap (λ batch. map_of (all ++ batch ∷ []) key) is
    ∙ wins all (changes_of before) [] change (All-nil (λ later. later.key ≢ key))

-- ---- calls that are Ok

module _ {E F M : Type 0} (env : Ghosts E F) (showing : Showing M) (name : List ℕ)
    (format : Format) where
  -- memory and disk show a store of these batches, of which so many are durable, in this mode
  record IsShownWith (meaning : Meaning) (memory : M) (at : E) (all : List Batch) (durable : ℕ)
      : Type 0 where
    pub store : UserStore
    pub shown : showing.shows (record { name = name; meaning = meaning }) format.order memory
        (env.observed at).disk store
    pub is : store ≡ fresh_store all durable is_open

  -- an opening shows the batches of the store, or also the pending one
  opened : (from to : E) (memory : M) (store : UserStore)
      → (holds : IsHeld env showing name format from store)
      → SaysOpened env showing name format from (Ok memory) to
      → (all : List Batch)
      × ((all ≡ store.batches) ⊎ (all ≡ store.batches ++ option_to_list store.pending))
      × IsShownWith holds.meaning memory to all store.durable
  opened from to memory store holds says =
      let it = says holds.modelled holds.meaning holds.agrees store holds.held in
      let row = opened_row format.order store.mode store it.next
      (subst (λ o. CallRow format.order store.mode store open_store o it.next) it.returned it.row)
      in (row.0, row.1, record { store = it.next; shown = it.after; is = row.2 })

  -- a synced write adds its batch, and all are durable
  written : (meaning : Meaning) (from to : E) (before after : M) (all : List Batch) (durable : ℕ)
      (batch : Batch) → IsTrue env.models_disk → IsShownWith meaning before from all durable
      → Says env showing before from (write batch true) (DoneOr {T = Unit {0}} (Ok tt)) after to
      → IsShownWith meaning after to (all ++ batch ∷ []) (length all + 1)
  written meaning from to before after all durable batch modelled old says =
      let it = says modelled (record { name = name; meaning = meaning }) format.order old.store
      old.shown in
      record {
        store = it.next;
        shown = it.after;
        is = written_row format.order all durable batch old.store it.next old.is
            (subst (λ o. CallRow format.order old.store.mode old.store (write batch true) o it.next)
            it.returned it.row);
      }

  -- a look-up finds the value in the map of the batches
  found_as : (meaning : Meaning) (from to : E) (before after : M) (all : List Batch) (durable : ℕ)
      (key : List ℕ) (value : Option (List ℕ)) → IsTrue env.models_disk
      → IsShownWith meaning before from all durable
      → Says env showing before from (get None key) (FoundOr (Ok value)) after to
      → (value ≡ map_of all key) × IsShownWith meaning after to all durable
  found_as meaning from to before after all durable key value modelled old says =
      let it = says modelled (record { name = name; meaning = meaning }) format.order old.store
      old.shown in
      let row = found_row format.order all durable key value old.store it.next old.is
      (subst (λ o. CallRow format.order old.store.mode old.store (get None key) o it.next)
      it.returned it.row) in
      (row.0, record { store = it.next; shown = it.after; is = row.1 })

  -- what a batch has last of a key is found
  pub put_is_found : (store : UserStore) (start : E)
      → IsHeld env showing name format start store → LaterEntryWins
      → (left opened_at written_at looked : E) (first second third : M)
      (before items : List Item) (key value : List ℕ) (looked_up : Option (List ℕ))
      → items ≡ before ++ item_of key (Some value) ∷ [] → opened_at ≡ left
      → SaysOpened env showing name format start (Ok first) left
      → Says env showing first opened_at (write (changes_of items) true)
      (DoneOr {T = Unit {0}} (Ok tt)) second written_at
      → Says env showing second written_at (get None key) (FoundOr (Ok looked_up)) third looked
      → looked_up ≡ Some value
  put_is_found store start holds wins left opened_at written_at looked first second third before
      items key value looked_up added same opens writes gets =
      let o = opened start opened_at first store holds
      (subst (λ at. SaysOpened env showing name format start (Ok first) at) (sym same) opens) in
      let w = written holds.meaning opened_at written_at first second o.0 store.durable
      (changes_of items) holds.modelled o.2 writes in
      let f = found_as holds.meaning written_at looked second third
      (o.0 ++ changes_of items ∷ []) (length o.0 + 1) key looked_up holds.modelled w gets in
      f.0 ∙ last_is_found wins o.0 before items key value added

  -- a value that the disk holds is found
  pub held_is_found : (start left opened_at looked : E) (first second : M) (key value : List ℕ)
      (looked_up : Option (List ℕ)) → IsValueHeld env showing name format start key value
      → opened_at ≡ left → SaysOpened env showing name format start (Ok first) left
      → Says env showing first opened_at (get None key) (FoundOr (Ok looked_up)) second looked
      → looked_up ≡ Some value
  held_is_found start left opened_at looked first second key value looked_up held same opens gets =
      let o = opened start opened_at first (fresh_store held.all (length held.all) is_closed)
      held.holds
      (subst (λ at. SaysOpened env showing name format start (Ok first) at) (sym same) opens) in
      let is : o.0 ≡ held.all = ⊎_elim (λ e. e) (λ e. e ∙ append-nil held.all) o.1 in
      (found_as held.holds.meaning opened_at looked first second o.0 (length held.all) key looked_up
      held.holds.modelled o.2 gets).0
      ∙ ap (λ all. map_of all key) is ∙ held.is_in
