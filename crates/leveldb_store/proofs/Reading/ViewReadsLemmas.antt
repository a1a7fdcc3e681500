-- A walk over the view of a store only reads, and its errors are counted.
use Rattle.std.proofs.Common.{◌≡◌, ◌≤◌, ◌<◌, ◌^◌, ◌-◌, ◌⊎◌, ⊎_elim, inl, inr, ℕ, ◌∙◌, ap, arith, subst, sym}
use Rattle.std.proofs.lemmas.Bool.{cases_lt}
use Rattle.leveldb_base.specs.Error.{IsOutOfMemory}
use Rattle.leveldb_base.specs.declared.cmp.Cmp.{Ghosts as CmpGhosts}
use Rattle.leveldb_base.specs.declared.cmp.internal.InternalKeyCmp.{InternalKeyCmp}
use Rattle.leveldb_base.specs.declared.error.Status.{Status}
use Rattle.leveldb_base.specs.declared.types.LdbIterator.{Ghosts as IteratorGhosts}
use Rattle.leveldb_env.specs.Compressor.{Codings}
use Rattle.leveldb_env.specs.declared.env.Env.{Ghosts as EnvGhosts}
use Rattle.leveldb_env.specs.declared.filter.FilterPolicy.{Ghosts as FilterGhosts}
use Rattle.leveldb_iter.specs.declared.walk.Walk.{Ghosts as WalkGhosts}
use Rattle.leveldb_version.specs.Tables.TableCache.{MatchesFiles, TableOptions, files_at}
use Rattle.leveldb_version.specs.Walks.VersionIter.{AreOpenGiven, FailsOr, KeepsReading}
use Rattle.leveldb_version.specs.Walks.VersionIterLaws.{reading_stays}
use Rattle.leveldb_version.specs.declared.table_cache.moves.ReadTables.{ReadTables}
use Rattle.leveldb_store.specs.Keeping.OpenStore.{OpenStoreValue}
use Rattle.leveldb_store.specs.Writing.Room.{HasFailed}
use Rattle.leveldb_store.specs.Reading.View.{CountsErrors, FailsBetween, IsWorldOf, ReadsAlone}
use Rattle.leveldb_store.specs.Reading.StoreWalk.{FailsInStore}
use Rattle.leveldb_store.specs.declared.store_walk.StoreWalk.TheVariants.{Memory, Tables}

-- a count that isn't at its greatest rose, or a failure was counted
pub counted_or_not : (from to : ℕ) → from < 2 ^ 64 → HasFailed from to ⊎ ((to ≡ 2 ^ 64 - 1 → ⊥) × (from < to → ⊥))
counted_or_not from to fits = ⊎_elim
    (λ (rose : from < to). inl (inl rose))
    (λ (not : to ≤ from). ⊎_elim
    (λ (less : to < 2 ^ 64 - 1). inr (λ full. absurd (omega (arith, less, full)), λ rose. absurd (omega (arith, not, rose))))
    (λ (most : 2 ^ 64 - 1 ≤ to). inl (inr (omega (arith, fits, not, most))))
    (cases_lt to (2 ^ 64 - 1)))
    (cases_lt from to)

module _ {E C FP K F : Type 0} (env : EnvGhosts E F) (counts : (e : E) → env.failures e < 2 ^ 64)
    (cmp : CmpGhosts C) (filters : FilterGhosts FP) (codings : K → Codings) where
  -- why a move over tables fails, between two worlds
  pub fails_between : {Why : Type 0} (from to : E × ReadTables E C FP K F) (status : Status)
      → FailsOr env cmp filters codings Why from to status
      → FailsBetween env from to (λ e. Why) status
  fails_between from to status (inl out) = inl out
  fails_between from to status (inr (inl rose)) = inr (inl (inl rose))
  fails_between from to status (inr (inr (inl full))) = ⊎_elim
      (λ (failed : HasFailed (env.failures from.0) (env.failures to.0)). inr (inl failed))
      (λ none. absurd (none.0 full))
      (counted_or_not (env.failures from.0) (env.failures to.0) (counts from.0))
  fails_between from to status (inr (inr (inr why))) = inr (inr why)

module _ {E C FP K F M : Type 0} (order : CmpGhosts (InternalKeyCmp C)) (env : EnvGhosts E F) (counts : (e : E) → env.failures e < 2 ^ 64)
    (cmp : CmpGhosts C) (filters : FilterGhosts FP) (codings : K → Codings) (iterator : IteratorGhosts M) where
  -- where no failure was counted, the cause may be there at any time
  at_any : {Why : Type 0} (from to other : E × ReadTables E C FP K F) (status : Status)
      → (env.failures to.0 ≡ 2 ^ 64 - 1 → ⊥) × (env.failures from.0 < env.failures to.0 → ⊥)
      → FailsOr env cmp filters codings Why from to status → FailsOr env cmp filters codings Why from other status
  at_any from to other status none fails = ⊎_elim
      (λ (out : IsOutOfMemory status). inl out)
      (⊎_elim
      (λ (rose : env.failures from.0 < env.failures to.0). absurd (none.1 rose))
      (⊎_elim
      (λ (full : env.failures to.0 ≡ 2 ^ 64 - 1). absurd (none.0 full))
      (λ why. inr (inr (inr why)))))
      fails

  -- the errors of a child of a store's merge are counted
  pub child_counts : CountsErrors env (FailsInStore order env cmp filters codings iterator)
  child_counts from to (Memory it) status fails = inr (inr (λ other. fails))
  child_counts from to (Tables it) status fails = ⊎_elim
      (λ (failed : HasFailed (env.failures from.0) (env.failures to.0)). inr (inl failed))
      (λ none. inr (inr (λ other. record {
        fault = at_any from to other status none fails.fault;
        lacks = λ meaning tables there. at_any from to other status none (fails.lacks meaning tables there);
      })))
      (counted_or_not (env.failures from.0) (env.failures to.0) (counts from.0))

module _ {E C FP K F : Type 0} {order : CmpGhosts (InternalKeyCmp C)} (env : EnvGhosts E F) (cmp : CmpGhosts C) (filters : FilterGhosts FP) (codings : K → Codings) where
  -- a world of an open store stays that, where tables are only read
  pub world_stays : (value : OpenStoreValue C) (from to : E × ReadTables E C FP K F) → KeepsReading order env cmp filters codings from to
      → IsWorldOf order env cmp filters codings value from → IsWorldOf order env cmp filters codings value to
  world_stays value from to kept world =
      let opened = world.has_open in
      let from_below = world.below_is in
      let to_below = kept.below_stays in
      let given : AreOpenGiven to = kept.given (λ number fits is_open. (let less = opened.are.given number fits is_open in omega (arith, less, from_below))) in
      record {
        order_is = ap cmp.cmp kept.cmp_stays ∙ world.order_is;
        below_is = kept.below_stays ∙ world.below_is;
        has_open = record {
          modelled = opened.modelled;
          are = record {
            path = kept.tables.path ∙ opened.are.path;
            given = λ number fits is_open. (let less = given number fits is_open in omega (arith, less, from_below, to_below));
            matches = subst (λ (by : TableOptions C FP). MatchesFiles order env by (files_at env to.0) to.1.cache.now) (sym (reading_stays from to kept))
                (kept.tables.matches (record { modelled = opened.modelled; matches = opened.are.matches })).matches;
          };
        };
      }

  -- the walk over the view of a merge of such children only reads
  pub view_reads : {W : Type 0} (walk : WalkGhosts W E (ReadTables E C FP K F)) → CountsErrors env walk.fails
      → ((first second : E × ReadTables E C FP K F) → walk.keeps first second → KeepsReading order env cmp filters codings first second)
      → ReadsAlone order env cmp filters codings walk
  view_reads walk counted keeps = record {
    leaves = keeps;
    stays = λ value from to kept. world_stays value from to (keeps from to kept);
    counts = counted;
  }
