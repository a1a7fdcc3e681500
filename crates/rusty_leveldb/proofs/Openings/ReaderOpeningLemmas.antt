-- An opening of a store to be read alone, by an engine that only reads.
use Rattle.std.proofs.Common.{◌≡◌, ◌≢◌, ◌≤◌, ◌+◌, ◌⊎◌, ◌∙◌, ⊎_elim, inl, inr, ℕ, List, refl, sym, ap, subst, arith, Option, Some, None, Ok, Err, IsTrue}
use Rattle.std.specs.declared.cmp.Ordering.{Ordering}
use Rattle.leveldb_base.specs.Error.{IsOutOfMemory, text_of}
use Rattle.leveldb_base.specs.History.{History, count_of, entries_of, greatest, with_batch}
use Rattle.leveldb_base.specs.declared.error.Status.{Status}
use Rattle.leveldb_env.specs.Env.{Files, HasCause}
use Rattle.leveldb_env.specs.Options.{Boxed, OptionsOf}
use Rattle.leveldb_env.specs.declared.env.Env.{Ghosts}
use Rattle.leveldb_files.proofs.Histories.SafeLemmas.{some_is}
use Rattle.leveldb_files.specs.Stores.Contents.{Contents, Store, made, missing}
use Rattle.leveldb_files.specs.Stores.Format.{Agrees, Format, IsTableOf, Meaning}
use Rattle.leveldb_files.specs.Histories.Holds.{Carries, MatchesHistory}
use Rattle.leveldb_files.specs.Stores.Paths.{current_path}
use Rattle.leveldb_files.specs.Stores.Store.{IsStore}
use Rattle.leveldb_version.specs.Tables.TableCache.{IsNewTableCache, MatchesFiles, TableOptions, files_at}
use Rattle.leveldb_version.specs.declared.table_cache.TableCache.{TableCache}
use Rattle.leveldb_store.specs.Keeping.OpenStore.{OpenStoreValue}
use Rattle.leveldb_store.specs.Openings.OpensStore.{LacksUsableEdits}
use Rattle.leveldb_store.specs.Openings.OpensToRead.{FailsToOpenToRead, IsReadAs, IsUnreadable, OpensToRead, WhyNotReadable}
use Rattle.leveldb_store.specs.Writing.Room.{HasFailed}
use Rattle.leveldb_store.specs.Keeping.Written.{HasView}
use Rattle.rusty_leveldb.specs.Engines.Boxes.{InternalOrder, ReaderOf}
use Rattle.rusty_leveldb.specs.Machines.Causes.{Cause, IsCausedBy, Setting, bad_operand, device_failed, out_of_memory, too_large}
use Rattle.rusty_leveldb.specs.Engines.Engine.{IsOpening, IsStoreName}
use Rattle.rusty_leveldb.specs.Openings.ReadAlone.{FindsHistory, ReadOpenExcused, ReaderOpens, ReadsHistory, of_present, reader_options, reader_tables_by}
use Rattle.rusty_leveldb.specs.Engines.Serves.{AreReadAs, Reads, StandsFor, refusal_of, setting_between}
use Rattle.rusty_leveldb.specs.Machines.State.{Opening, State, open_store}
use Rattle.rusty_leveldb.proofs.Openings.DoneOpeningLemmas.{none_open}
use Rattle.rusty_leveldb.proofs.Openings.OpeningLemmas.{fits_or_not, other_lacks}
use Rattle.rusty_leveldb.proofs.Openings.ReadAloneLemmas.{disk_still}
use Rattle.rusty_leveldb.proofs.Engines.ReadsLemmas.{IsNamed}
use Rattle.rusty_leveldb.proofs.Openings.UnopenedLemmas.{Found, comparator_there, found_in, in_order, lacking, not_true, other, there_if}

-- a store of this name that is there
made_of : (name : List ℕ) (there : Store) → IsNamed name there → there ≢ missing
    → there ≡ made (Some name)
made_of name missing named is_there = absurd (is_there refl)
made_of name (made other) named is_there = ap made named

-- files that are read as a store of another comparator have no usable edits
others_lack : (store : List ℕ) (meaning : Meaning) (format : Format) (files : Files)
    (contents : Contents) → Reads store meaning files contents → files (current_path store) ≢ None
    → (name : List ℕ) → contents.store ≡ made (Some name) → name ≢ format.order_name
    → LacksUsableEdits store format files
others_lack store meaning format files contents read there name is differs =
    let found : Found store meaning files contents.store =
    record { contents = contents; read = read; store_is = refl } in (
      there,
      λ edits has usable. differs (some_is name format.order_name (some_made
          (sym is ∙ comparator_there store meaning files contents.store found edits has
          format.order_name usable.comparator_is))),
    )
  where
    some_made : {a b : Option (List ℕ)} → made a ≡ made b → a ≡ b
    some_made e = ap (λ (s : Store). name_of s) e
      where
        name_of : Store → Option (List ℕ)
        name_of (made name) = name
        name_of missing = None

-- ---- why it fails

module _ {E F : Type 0} (env : Ghosts E F) (store : List ℕ) (asked : Opening) (from : E)
    (after : ℕ) (e : Status) (modelled : IsTrue env.models_disk) (opening : Opening)
    (is : IsOpening store (of_present asked) opening) (meaning : Meaning)
    (agrees : Agrees opening.format meaning) (old : State)
    (stands : StandsFor store meaning (env.observed from).disk old) where
  abbrev setting : Setting
  setting = setting_between meaning (env.failures from) after

  abbrev files : Files
  files = files_at env from

  found : Found store meaning files old.store
  found = found_in store meaning (env.observed from).disk old stands

  opening_format : opening.format ≡ asked.format
  opening_format = ap (λ (o : Opening). o.format) is.same

  same_order : asked.format.order ≡ meaning.orders asked.format.order_name
  same_order = subst (λ (f : Format). f.order ≡ meaning.orders f.order_name) opening_format
      agrees.order

  abbrev HasCauseHere : Type 0
  HasCauseHere = (cause : Cause) × IsCausedBy setting old (open_store opening) (refusal_of e) cause

  unreadable : IsUnreadable env store asked.format from e → HasCauseHere
  unreadable (inl others) = (
    bad_operand,
    (
      others.0,
      inr (other env store meaning (of_present asked) opening is agrees from modelled old stands
          setting e (others.1 modelled)),
    ),
  )
  unreadable (inr (inl damage)) =
      let read = in_order store asked.format files meaning same_order found.contents found.read in
      absurd (damage.1 modelled meaning read.0 found.contents read.1 read.2)
  unreadable (inr (inr (inl not))) = (too_large, (tt, not.0))
  unreadable (inr (inr (inr logs))) = (too_large, (tt, logs.2.too_large.code))

  unread : WhyNotReadable env store asked.format from e → HasCauseHere
  unread (inl none) = (
    bad_operand,
    (
      none.0,
      inr (lacking env store meaning (of_present asked) opening is agrees from modelled old stands
          setting e refl (none.1 modelled)),
    ),
  )
  unread (inr it) = unreadable it.1

  -- each reason is a cause of the machine, of a disk that represents a state
  pub alone_cause : ReadOpenExcused env store asked from e ⊎ HasFailed (env.failures from) after
      → HasCauseHere
  alone_cause (inl (inl memory)) = (out_of_memory, (tt, memory.0, ap text_of memory.1))
  alone_cause (inl (inr (inl badly))) = (
    bad_operand,
    (badly.0, inl (not_true opening.fits (λ fits. badly.1 (is.fits.0 fits)))),
  )
  alone_cause (inl (inr (inr (inl unset)))) = (too_large, (tt, unset.0))
  alone_cause (inl (inr (inr (inr not)))) = unread not
  alone_cause (inr failed) = (device_failed, (tt, failed))

module _ {E C FP F : Type 0} {B : Boxed} {keys : InternalOrder C} (env : Ghosts E F)
    (formats : OptionsOf C FP B → Format) (store : List ℕ) (options : OptionsOf C FP B)
    (asked : Opening) (from : E) where
  -- it failed before a call was made
  pub alone_early : (e : Status) → ReadOpenExcused env store asked from e
      → ReaderOpens keys env formats store options asked from (Err e) from
  alone_early e why = record {
    finds = tt;
    reads = tt;
    found = tt;
    place = tt;
    options_are = tt;
    still = disk_still env from;
    err = λ modelled opening is meaning agrees old stands. alone_cause env store asked from
        (env.failures from) e modelled opening is meaning agrees old stands (inl why);
    missing = λ modelled none. tt;
    unusable = λ modelled lacks. tt;
    misnamed = λ no. (refl, tt);
    counts = tt;
    cause = record { later = omega arith; cause = inl why };
  }

  module _ (asked_is : formats options ≡ asked.format) (to : E) where
    -- the store's files weren't opened to be read
    pub alone_fails : (e : Status) → IsStoreName store × IsTrue asked.fits × IsTrue asked.compresses
        → OpensToRead env store asked.format from {C = C} (Err e) to
        → HasCause {T = OpenStoreValue C} (FailsToOpenToRead env store asked.format from to)
        (env.failures from) (env.failures to) (Err e)
        → ReaderOpens keys env formats store options asked from (Err e) to
    alone_fails e well opens fails = record {
      finds = tt;
      reads = tt;
      found = tt;
      place = tt;
      options_are = tt;
      still = record { disk = opens.still; locks = opens.locks };
      err = λ modelled opening is meaning agrees old stands. alone_cause env store asked from
          (env.failures to) e modelled opening is meaning agrees old stands why;
      missing = λ modelled none. tt;
      unusable = λ modelled lacks. tt;
      misnamed = λ no. absurd (no well);
      counts = tt;
      cause = record { later = fails.later; cause = why };
    }
      where
        why : ReadOpenExcused env store asked from e
            ⊎ HasFailed (env.failures from) (env.failures to)
        why = ⊎_elim
            (λ (excused : FailsToOpenToRead env store asked.format from to e). inl (⊎_elim
            (λ (memory : IsOutOfMemory e). inl memory)
            (λ (not : WhyNotReadable env store asked.format from e
            × (env.failures to ≡ env.failures from)). inr (inr (inr not.0))) excused))
            (λ counted. inr (⊎_elim
            (λ (more : env.failures to ≡ env.failures from + 1). inl (omega (arith, more)))
            (λ full. inr full.0) counted))
            fails.cause

    -- the store is open to be read
    module _ (well : IsStoreName store × IsTrue asked.fits × IsTrue asked.compresses)
        (value : OpenStoreValue C) (cache : TableCache E C FP F)
        (opens : OpensToRead env store asked.format from (Ok value) to)
        (counted : env.failures to ≡ env.failures from)
        (usable : IsTrue env.models_disk → LacksUsableEdits store asked.format (files_at env from)
        → ⊥)
        (cmp : value.cmp ≡ options.cmp) (is_new : IsNewTableCache store options cache)
        (matches : (by : TableOptions C FP) (files : Files) → MatchesFiles keys env by files cache)
      where
        abbrev reader : ReaderOf E C FP F B
        reader = record { options = options; store = value; tables = cache }

        same_options : reader_options reader ≡ options
        same_options = ap (λ (c : C). record options { cmp = c }) cmp

        same_format : formats (reader_options reader) ≡ asked.format
        same_format = ap formats same_options ∙ asked_is

        module _ (modelled : IsTrue env.models_disk) (meaning : Meaning)
            (agrees : Agrees asked.format meaning) where
          same_files : files_at env to ≡ files_at env from
          same_files = (opens.still modelled).has

          is_there : files_at env from (current_path store) ≢ None
          is_there none = opens.missing modelled none

          -- read in the order that is asked for, since a store of another comparator isn't opened
          in_asked : (contents : Contents) → Reads store meaning (files_at env from) contents
              → IsStore store asked.format.order (IsTableOf asked.format.order meaning)
              (files_at env from) contents
          in_asked contents read =
              let ordered = in_order store asked.format (files_at env from) meaning agrees.order
              contents read in
              ⊎_elim
              (λ (is : ordered.0 ≡ asked.format.order). subst (λ (o : List ℕ → List ℕ → Ordering).
              IsStore store o (IsTableOf o meaning) (files_at env from) contents) is ordered.2)
              (λ (others : (name : List ℕ) × (contents.store ≡ made (Some name))
              × (name ≢ asked.format.order_name)). absurd (usable modelled
              (others_lack store meaning asked.format (files_at env from) contents read is_there
              others.0 others.1 others.2))) ordered.1

          read_as : (contents : Contents) → Reads store meaning (files_at env from) contents
              → IsReadAs asked.format.order meaning contents value (files_at env from)
          read_as contents read =
              opens.shows modelled meaning agrees contents (in_asked contents read)

          reads : (history : History) (last : ℕ)
              → AreReadAs store meaning (files_at env from) history last
              → (value.set.last_sequence ≡ last)
              × ReadsHistory keys env formats meaning reader (files_at env to) history
          reads history last found =
              let c = found.0 in
              let match : MatchesHistory (λ any. Unit {0}) c.contents.last c.contents history = record {
                same = c.matches.same;
                up_to = c.matches.up_to;
                reached = c.matches.reached;
                bounded = omega arith;
                store = tt;
              } in
              let shown = read_as c.contents c.read in (
                shown.last ∙ found.1,
                record {
                  agrees = subst (λ (f : Format). Agrees f meaning) (sym same_format) agrees;
                  shows = subst (λ (f : Format). HasView f.order meaning value (files_at env to) history
                      (greatest (entries_of history))) (sym same_format)
                      (subst (λ (files : Files). HasView asked.format.order meaning value files history
                      (greatest (entries_of history))) (sym same_files) (shown.shows history match));
                  reached = subst (λ (n : ℕ). greatest (entries_of history) ≤ n) (sym shown.last)
                      c.matches.reached;
                  tables = none_open env (reader_tables_by formats reader) value.set options cache to
                      store opens.path is_new matches;
                },
              )

          module _ (old : State) (stands : StandsFor store meaning (env.observed from).disk old) where
            abbrev bound : ℕ
            bound = old.last + count_of old.pending

            of_asked : old.store ≡ made (Some asked.format.order_name)
            of_asked = made_of asked.format.order_name old.store (⊎_elim
                (λ (named : IsNamed asked.format.order_name old.store). named)
                (λ (differs : (other : List ℕ) × (old.store ≡ made (Some other))
                × (other ≢ asked.format.order_name)). absurd (usable modelled
                (other_lacks store meaning asked agrees (env.observed from) old stands
                (files_at env from) (λ path apart. refl) differs.0 differs.1 differs.2)))
                (fits_or_not store meaning asked agrees (env.observed from) old stands))
                (there_if store meaning (files_at env from) old.store
                (found_in store meaning (env.observed from).disk old stands) is_there)

            carried : (history : History)
                → (history ≡ old.history) ⊎ (history ≡ with_batch old.history old.pending)
                → Carries store (Reads store meaning) (λ now. now ≡ old.store) bound history
                (files_at env from) → (history : History)
                × FindsHistory old asked.format history value.set.last_sequence
                × ReadsHistory keys env formats meaning reader (files_at env to) history
            carried history joins c =
                let carried_as : AreReadAs store meaning (files_at env from) history c.contents.last = (
                  record {
                    contents = c.contents;
                    read = c.read;
                    matches = record {
                      same = c.matches.same;
                      up_to = c.matches.up_to;
                      reached = c.matches.reached;
                      bounded = omega arith;
                      store = tt;
                    };
                  },
                  refl,
                ) in
                let read = reads history c.contents.last carried_as in (
                  history,
                  record {
                    store = of_asked;
                    joins = joins;
                    reached = read.1.reached;
                    bounded = subst (λ (n : ℕ). n ≤ bound) (sym read.0) c.matches.bounded;
                  },
                  read.1,
                )

            finds : (history : History)
                × FindsHistory old asked.format history value.set.last_sequence
                × ReadsHistory keys env formats meaning reader (files_at env to) history
            finds = ⊎_elim
                (λ (c : Carries store (Reads store meaning) (λ now. now ≡ old.store) bound
                old.history (files_at env from)). carried old.history (inl refl) c)
                (λ (c : Carries store (Reads store meaning) (λ now. now ≡ old.store) bound
                (with_batch old.history old.pending) (files_at env from)).
                carried (with_batch old.history old.pending) (inr refl) c) stands.holds.now

        pub alone_opens : ReaderOpens keys env formats store options asked from (Ok reader) to
        alone_opens = record {
          finds = λ modelled meaning agrees old stands. finds modelled meaning agrees old stands;
          reads = λ modelled meaning agrees history last c.
              reads modelled meaning agrees history last c;
          found = opens.found;
          place = opens.path;
          options_are = same_options;
          still = record { disk = opens.still; locks = opens.locks };
          err = tt;
          missing = opens.missing;
          unusable = usable;
          misnamed = λ no. absurd (no well);
          counts = counted;
          cause = record { later = omega (arith, counted); cause = tt };
        }
