-- Changes that are put together to a batch, and a batch that is refused before it is written.
use Rattle.std.proofs.Common.{◌≡◌, ◌<◌, ◌≤◌, ◌+◌, ◌^◌, ◌⊎◌, inl, ⊎_elim, ℕ, List, [], ◌∷◌, ◌++◌, length, take, drop, flat_map, refl, sym, ◌∙◌, ap, subst, arith, Bool, length-append}
use Rattle.std.specs.Prelude.{map}
use Rattle.std.proofs.Math.ListN.{get_or}
use Rattle.std.proofs.lemmas.List.{map-append, take_more, take-append-drop}
use Rattle.std.proofs.lemmas.Bool.{cases_lt}
use Rattle.std.proofs.lemmas.List.Concat.{flat_map-append}
use Rattle.std.proofs.lemmas.List.Elements.{All-contains}
use Rattle.leveldb_base.specs.declared.error.Status.{Status}
use Rattle.leveldb_base.specs.declared.error.StatusCode.TheVariants.{InvalidArgument}
use Rattle.leveldb_base.specs.Error.{IsOutOfMemory, text_of}
use Rattle.leveldb_base.specs.History.{Item}
use Rattle.leveldb_env.specs.declared.env.Env.{Ghosts}
use Rattle.leveldb_mem.specs.WriteBatch.{Batch, BatchOf, IsShort, with_item, change_bytes, batch_bytes, max_length, IsTooLong}
use Rattle.leveldb_mem.proofs.WriteBatchLemmas.{items_short, length-batch_bytes}
use Rattle.rusty_leveldb.specs.declared.shell.commands.Item as item
use Rattle.rusty_leveldb.specs.Programs.Shell.{change_of}
use Rattle.rusty_leveldb.specs.Machines.State.{open_mode, write, refused}
use Rattle.rusty_leveldb.specs.Machines.Causes.{Setting, out_of_memory, bad_operand, IsLongBatch}
use Rattle.rusty_leveldb.specs.Machines.Laws.{LongItemMakesLongBatch}
use Rattle.rusty_leveldb.specs.Machines.Machine.{Keeps, Step}
use Rattle.rusty_leveldb.specs.Engines.Serves.{setting_between, refusal_of}
use Rattle.rusty_leveldb.specs.Engines.Engine.{AnswersStill}
use Rattle.rusty_leveldb.proofs.Engines.Moments.{moments_none}
use Rattle.rusty_leveldb.specs.Engines.Frame.{MayTouch}
use Rattle.rusty_leveldb.proofs.Engines.Others.{spares_still}
use Rattle.leveldb_env.specs.Options.{Boxed, OptionsOf}
use Rattle.rusty_leveldb.specs.Engines.Boxes.{EngineOf, InternalOrder}
use Rattle.leveldb_files.specs.Stores.Format.{Format}

-- a batch whose front is too long is too long
pub longer_too : (first : ℕ) (front more : List Item) → 2 ^ 30 < length (batch_bytes first front) → IsLongBatch (front ++ more)
longer_too first front more long =
    let both = ap length (flat_map-append change_bytes front more) in
    omega (arith, long, length-batch_bytes first front, length-batch_bytes 0 (front ++ more), both, length-append (flat_map change_bytes front) (flat_map change_bytes more))

-- a change with which a batch is too long, among others
pub too_long_among : (batch : Batch) (items : List item.Item) (i : ℕ) (one : item.Item) → i < length items → one ≡ get_or items i one → batch.items ≡ map change_of (take i items)
    → IsTooLong (with_item batch (change_of one)) → IsLongBatch (map change_of items)
too_long_among batch items i one below is so_far long =
    let front : map change_of (take (i + 1) items) ≡ batch.items ++ change_of one ∷ [] =
    ap (map change_of) (take_more items i one below ∙ ap (λ (x : item.Item). take i items ++ x ∷ []) (sym is)) ∙ map-append change_of (take i items) (one ∷ []) ∙ ap (λ xs. xs ++ change_of one ∷ []) (sym so_far) in
    let all : map change_of items ≡ (batch.items ++ change_of one ∷ []) ++ map change_of (drop (i + 1) items) =
    ap (map change_of) (sym (take-append-drop (i + 1) items)) ∙ map-append change_of (take (i + 1) items) (drop (i + 1) items) ∙ ap (λ xs. xs ++ map change_of (drop (i + 1) items)) front in
    subst IsLongBatch (sym all) (longer_too batch.first (batch.items ++ change_of one ∷ []) (map change_of (drop (i + 1) items)) long)

-- ---- the limit

-- a batch that there is isn't too long
pub not_too_long : (bytes : List ℕ) (first : ℕ) (items : List Item) → BatchOf bytes first items → IsLongBatch items → ⊥
not_too_long bytes first items is long =
    omega (arith, long, is.limited, ap length is.encoded, length-batch_bytes first items, length-batch_bytes 0 items)

-- one with an item that is too long is
pub long_item : LongItemMakesLongBatch
long_item items one among long = ⊎_elim
    (λ (past : max_length < length (batch_bytes 0 items)). past)
    (λ (within : length (batch_bytes 0 items) ≤ max_length).
    absurd (long (All-contains IsShort items one
    (items_short (batch_bytes 0 items) 0 items (record { encoded = refl; numbered = omega arith; limited = within })) among)))
    (cases_lt max_length (length (batch_bytes 0 items)))

-- ---- a batch that isn't written

-- why the batch of these changes isn't put together
abbrev pub IsUnmade : List Item → Status → Type 0
IsUnmade items status = IsOutOfMemory status ⊎ ((status.code ≡ InvalidArgument) × IsLongBatch items)

module _ {E C FP F : Type 0} {B : Boxed} {keys : InternalOrder C} (env : Ghosts E F)
    (formats : OptionsOf C FP B → Format) (engine : EngineOf E C FP F B)
    (opened : engine.mode ≡ open_mode) (items : List Item) (sync : Bool) (status : Status) (why : IsUnmade items status) where
  pub not_written : AnswersStill keys env formats engine (write items sync) (refused (refusal_of status))
  not_written at store meaning tells old represents = record {
    new = old;
    represents = represents;
    later = omega arith;
    step = subst (λ mode. Step mode setting old (write items sync) (refused (refusal_of status)) old) (sym opened ∙ represents.memory_is.mode) (⊎_elim for_memory for_length why);
    moments = moments_none store meaning (write items sync) old (env.observed at) represents.disk_is;
    spares = spares_still store (MayTouch store old.mode (write items sync)) (env.observed at).disk;
    bytes = λ never. absurd never;
  }
    where
      setting : Setting
      setting = setting_between meaning (env.failures at) (env.failures at)

      kept : Keeps old old
      kept = record { state = refl; durable = inl refl }

      for_memory : IsOutOfMemory status → Step open_mode setting old (write items sync) (refused (refusal_of status)) old
      for_memory none = record { cause = out_of_memory; comes = (tt, none.0, ap text_of none.1); leaves = inl kept }

      for_length : (status.code ≡ InvalidArgument) × IsLongBatch items → Step open_mode setting old (write items sync) (refused (refusal_of status)) old
      for_length long = record { cause = bad_operand; comes = long; leaves = inl kept }
