-- Calls that keep what is shown, or keep it from a number on.
use Rattle.std.proofs.Common.{◌≡◌, ◌≤◌, ℕ, List, subst, sym}
use Rattle.std.specs.Prelude.{IsTrue}
use Rattle.std.specs.declared.cmp.Ordering.{Ordering}
use Rattle.leveldb_base.specs.History.{History}
use Rattle.leveldb_env.proofs.EnvLemmas.{Run-trans}
use Rattle.leveldb_env.specs.Env.{Files, Observed, Run}
use Rattle.leveldb_version_set.proofs.Compactions.ShownFromLemmas.{keeps_both, keeps_each, shown_later}
use Rattle.leveldb_files.specs.Stores.Format.{IsTableOf, Meaning}
use Rattle.leveldb_files.specs.Steps.StoreSteps.{KeepsHistory}
use Rattle.leveldb_store.proofs.Keeping.TableKeepsLemmas.{KeepsHistory-trans}
use Rattle.leveldb_store.specs.Keeping.OpenStore.{IsUnbroken, OpenStoreValue}
use Rattle.leveldb_store.specs.Keeping.Written.{KeepsWritten, HasView, memory_of}
use Rattle.leveldb_store.specs.Keeping.WrittenFrom.{KeepsWrittenFrom}

module _ {C : Type 0} (cmp : List ℕ → List ℕ → Ordering) (meaning : Meaning) where
  -- a store shows from each later number on what it shows from a number on
  pub store_shows_later : (value : OpenStoreValue C) (files : Files) (history : History)
      (since then : ℕ) → since ≤ then → HasView cmp meaning value files history since
      → HasView cmp meaning value files history then
  store_shows_later value files history since then later shown = record {
    tables = shown.tables;
    has = shown.has;
    shows = shown_later cmp (memory_of value) shown.tables history since then later shown.shows;
  }

  -- a call that keeps all that is shown keeps it from whatever number on is held
  pub keeps_from : (smallest : ℕ) (old : OpenStoreValue C) (from : Observed) (new : OpenStoreValue C)
      (to : Observed) → KeepsWritten cmp meaning old from new to
      → KeepsWrittenFrom cmp meaning smallest old from new to
  keeps_from smallest old from new to keeps allowed written =
      let it = keeps allowed written in
      record {
        moments = it.moments;
        written = it.written;
        shows = λ history. keeps_each smallest history
            (HasView cmp meaning old from.disk.files history)
            (HasView cmp meaning new to.disk.files history)
            (store_shows_later new to.disk.files history) (it.shows history);
      }

  -- two calls in a row keep it, where the first breaks nothing and adds no batch
  pub keeps_from_then : (smallest : ℕ) (old mid new : OpenStoreValue C) (v0 v1 v2 : Observed)
      → KeepsWrittenFrom cmp meaning smallest old v0 mid v1 → IsUnbroken mid
      → mid.set.store ≡ old.set.store → mid.set.last_sequence ≡ old.set.last_sequence
      → KeepsWrittenFrom cmp meaning smallest mid v1 new v2
      → KeepsWrittenFrom cmp meaning smallest old v0 new v2
  keeps_from_then smallest old mid new v0 v1 v2 first unbroken same_store same_last second allowed
      w =
      let one = first allowed w in
      let two = second allowed (one.written unbroken) in
      record {
        moments = λ bound late. Run-trans (one.moments bound late)
            (λ files passes. KeepsHistory-trans (one.moments bound late).has passes)
            (subst (λ (s : List ℕ). Run (KeepsHistory s cmp (IsTableOf cmp meaning)
            (λ store. IsTrue (allowed store)) bound v1.disk.files) v1 v2) same_store
            (two.moments bound (subst (λ n. n ≤ bound) (sym same_last) late)));
        written = two.written;
        shows = λ history. keeps_both smallest history
            (HasView cmp meaning old v0.disk.files history)
            (HasView cmp meaning mid v1.disk.files history)
            (HasView cmp meaning new v2.disk.files history) (one.shows history) (two.shows history);
      }
