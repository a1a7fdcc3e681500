-- The records of a manifest's file, applied one after another while it is read.
use Rattle.std.specs.Prelude.{◌↔◌, IsTrue}
use Rattle.std.proofs.Common.{◌≡◌, ◌∙◌, ◌⊎◌, inl, inr, ⊎_elim, ℕ, ◌+◌, ◌*◌, ◌^◌, ◌≤◌, true, List, [], ◌∷◌, ◌++◌, Result, ap, append_assoc, arith, length, length-append, refl, subst, sym}
use Rattle.std.proofs.lemmas.List.{length_push}
use Rattle.leveldb_base.specs.Error.{IsOutOfMemory}
use Rattle.leveldb_base.specs.declared.error.Status.{Status}
use Rattle.leveldb_base.specs.declared.error.StatusCode.TheVariants.{NotSupported}
use Rattle.leveldb_env.specs.declared.env.Env.{Ghosts}
use Rattle.leveldb_env.specs.declared.env.env_file.EnvFile.{EnvFile}
use Rattle.leveldb_env.specs.EnvFile.{ChangesBorrowedFile, ReadsBorrowed}
use Rattle.leveldb_mem.proofs.LawsLemmas.{usual_size}
use Rattle.leveldb_mem.proofs.LogLemmas.{length-record, log_append, log_reads}
use Rattle.leveldb_mem.proofs.ReaderLemmas.{HoldsOfRest-borrowed, IsReadAsLog-borrowed, ReadSoFar-clean, ReadSoFar-more, ReadSoFar-none, ReadSoFar-stopped, ReadSoFar-torn, ReadSoFar-wrong, StopsReadingFile-borrowed, wants_memory}
use Rattle.leveldb_mem.specs.Log.{End, IsLogFile, LogOf, bad, clean, log_block_size, offset_after}
use Rattle.leveldb_env.specs.Source.{GivesSome}
use Rattle.leveldb_mem.specs.Log.Reader.{FindsEnd, FindsRecord, FindsWrongChecksum, HoldsOfRest, IsTorn, ReadSoFar, ReaderState, StopsReading, at_end, new_reader, whatever_follows}
use Rattle.std.proofs.lemmas.List.Elements.{Contains-append_left, Contains-push}
use Rattle.leveldb_version_set.specs.Sets.Replay.{AreReplayedTo, EncodesNoEdit, IsNoLogOfEdits, ReplaysFileRest, ReplaysRest, ReplaysRestTo, StopsFileReplay, StopsReplay, TakesEdit, with_files}
use Rattle.leveldb_files.specs.Stores.Store.{LastNumbersFit}
use Rattle.leveldb_files.specs.Edits.Edit.{Edit, NewFile}
use Rattle.leveldb_version.specs.Edits.VersionEdit.{edit_of}
use Rattle.leveldb_version_set.specs.declared.version_set.replay.Replayed.{Replayed}
use Rattle.leveldb_version_set.proofs.Sets.ReplayLemmas.{replayed_one_more}

-- ---- how long a log is

-- each record has seven bytes at least
records_are_long : (offset : ℕ) (records : List (List ℕ)) (bytes : List ℕ)
    → LogOf true log_block_size records clean offset bytes → 7 * length records ≤ length bytes
records_are_long offset [] bytes log = omega arith
records_are_long offset (text ∷ records) bytes log =
    let one = length-record true log_block_size offset text log.front log.is_front in
    let rest = records_are_long (offset_after log_block_size offset log.front) records log.rest
    log.is_rest in
    let whole = ap length log.bytes_are ∙ length-append log.front log.rest in
    omega (arith, one, rest, whole)

-- ---- a record that encodes no edit

-- whatever comes after a front whose records have one that encodes no edit
has_no_edit : (records : List (List ℕ)) (front rest bytes : List ℕ) (status : Status)
    → IsLogFile front (records ++ bytes ∷ []) clean → EncodesNoEdit bytes status
    → IsNoLogOfEdits (front ++ rest)
has_no_edit records front rest bytes status log none =
    let others = log_reads true log_block_size usual_size.most (offset_after log_block_size 0 front)
    rest in
    record {
      records = (records ++ bytes ∷ []) ++ others.0;
      end = others.1;
      read = log_append log_block_size usual_size.least true 0 (omega arith) (records ++ bytes ∷ [])
          others.0 front rest others.1 log others.2;
      bytes = bytes;
      is_record = Contains-append_left (records ++ bytes ∷ []) others.0 bytes
          (Contains-push records bytes);
      no_edit = none.none;
    }

-- ---- the loop

module _ {S : Type 0} (gives : S → ℕ → Result (List ℕ) Status → S → Type 0) (from : S) where
  -- so many records were read of the source, and applied
  pub record Replaying (count : ℕ) (left : Replayed) (files : List NewFile) (core : ReaderState)
      (at : S) : Type 0 where
    pub records : List (List ℕ)
    pub read : ReadSoFar gives true log_block_size from records core at
    pub replayed : AreReplayedTo records (with_files left.full files) left
    pub counted : length records ≡ count

  pub replaying_none : (left : Replayed) (files : List NewFile) (core : ReaderState)
      → AreReplayedTo [] (with_files left.full []) left → files ≡ []
      → core ≡ new_reader true log_block_size → Replaying 0 left files core from
  replaying_none left files core none no_files new = record {
    records = [];
    read = subst (λ reader. ReadSoFar gives true log_block_size from [] reader from) (sym new)
        (ReadSoFar-none gives true log_block_size usual_size from);
    replayed = subst (λ them. AreReplayedTo [] (with_files left.full them) left) (sym no_files) none;
    counted = refl;
  }

  module _ (count : ℕ) (left : Replayed) (files : List NewFile) (core : ReaderState) (at : S)
      (was : Replaying count left files core at) (next : ReaderState) (to : S) where
    -- one more
    more_read : (text : List ℕ) → FindsRecord gives core at text next to
        → ReadSoFar gives true log_block_size from (was.records ++ text ∷ []) next to
    more_read = ReadSoFar-more gives true log_block_size usual_size from was.records core at
        was.read next to

    pub replaying_more : (text : List ℕ) (new : Replayed) (new_files : List NewFile)
        → FindsRecord gives core at text next to → TakesEdit text left files new new_files
        → Replaying (count + 1) new new_files next to
    replaying_more text new new_files found takes = record {
      records = was.records ++ text ∷ [];
      read = more_read text found;
      replayed = replayed_one_more was.records text left files new new_files was.replayed takes;
      counted = length_push was.records text ∙ ap (λ n. n + 1) was.counted;
    }

    -- the end
    pub replayed_clean : FindsEnd gives core at next to → ReplaysRestTo gives from (with_files left.full files) left clean to
    replayed_clean found = record {
      records = was.records;
      replayed = was.replayed;
      read = ReadSoFar-clean gives true log_block_size usual_size from was.records core at was.read
          next to found;
    }

    pub replayed_torn : HoldsOfRest gives (IsTorn core.checked core.size core.offset) core.unread at
        to → ReplaysRestTo gives from (with_files left.full files) left bad to
    replayed_torn torn = record {
      records = was.records;
      replayed = was.replayed;
      read = ReadSoFar-torn gives true log_block_size usual_size from was.records core at was.read
          next to torn;
    }

    pub replayed_wrong : FindsWrongChecksum gives core at next to
        → ReplaysRestTo gives from (with_files left.full files) left bad to
    replayed_wrong found = record {
      records = was.records;
      replayed = was.replayed;
      read = ReadSoFar-wrong gives true log_block_size usual_size from was.records core at was.read
          next to found;
    }

    -- a read fails
    pub replay_stopped : (status : Status) → StopsReading gives at status to
        → StopsReplay gives from status to
    replay_stopped status stops = inl (ReadSoFar-stopped gives true log_block_size usual_size from
        was.records core at was.read next to status stops)

    -- a record isn't applied
    pub replay_refused : (text : List ℕ) (status : Status) → FindsRecord gives core at text next to
        → IsOutOfMemory status ⊎ EncodesNoEdit text status → StopsReplay gives from status to
    replay_refused text status found why =
        let read = more_read text found in
        ⊎_elim
        (λ (memory : IsOutOfMemory status).
        inl (ReadSoFar-stopped gives true log_block_size usual_size from
        (was.records ++ text ∷ []) next to read next to status
        (inl (wants_memory gives to status memory))))
        (λ (none : EncodesNoEdit text status).
        inr (inl (record {
          code = none.code;
          has = whatever_follows (read.front ++ next.unread) read.come
              (λ more. subst IsNoLogOfEdits (sym (append_assoc read.front next.unread more))
              (has_no_edit was.records read.front (next.unread ++ more) text status read.log none));
        })))
        why

  -- there are more records than can be counted
  pub replay_too_long : (count : ℕ) (left : Replayed) (files : List NewFile) (core : ReaderState)
      (at : S) → Replaying count left files core at → 2 ^ 64 ≤ 7 * count → (status : Status)
      → status.code ≡ NotSupported → StopsReplay gives from status at
  replay_too_long count left files core at was many status code =
      let long = records_are_long 0 was.records was.read.front was.read.log in
      let counted = was.counted in
      let both = length-append was.read.front core.unread in
      inl (inr (record {
        code = code;
        bytes = was.read.front ++ core.unread;
        given_before = subst (λ bytes. GivesSome gives from bytes at)
            (sym was.read.come.bytes_are) was.read.come.reads;
        many = omega (arith, long, counted, both, many);
      }))

-- ---- the end

module _ {S : Type 0} (gives : S → ℕ → Result (List ℕ) Status → S → Type 0) (from to : S) where
  -- the files are joined to what else there is
  pub replayed_whole : (full : Edit) (left it : Replayed) (end : End)
      → ReplaysRestTo gives from full left end to → edit_of it.full ≡ full
      → it.log_number ≡ left.log_number → it.previous_log ≡ left.previous_log
      → it.next_file ≡ left.next_file → it.last_sequence ≡ left.last_sequence
      → it.numbers_fit ≡ left.numbers_fit → ReplaysRest gives from it end to
  replayed_whole full left it end replays same log previous next last fit = record {
    records = replays.records;
    replayed = record {
      edits = replays.replayed.edits;
      each = replays.replayed.each;
      left = record {
        full = same ∙ replays.replayed.left.full;
        log_number = log ∙ replays.replayed.left.log_number;
        previous_log = previous ∙ replays.replayed.left.previous_log;
        next_file = next ∙ replays.replayed.left.next_file;
        last_sequence = last ∙ replays.replayed.left.last_sequence;
        numbers_fit = subst (λ b. IsTrue b ↔ LastNumbersFit replays.replayed.edits) (sym fit)
            replays.replayed.left.numbers_fit;
      };
    };
    read = replays.read;
  }

  -- or memory is out
  pub replay_out : (full : Edit) (left : Replayed) (end : End)
      → ReplaysRestTo gives from full left end to → (status : Status) → IsOutOfMemory status
      → StopsReplay gives from status to
  replay_out full left end replays status memory =
      inr (inr (record { memory = memory; read = anything replays.read }))
    where
      anything : HoldsOfRest gives (λ text. IsLogFile text replays.records end) [] from to
          → HoldsOfRest gives (λ text. Unit {0}) [] from to
      anything (at_end bytes come holds) = at_end bytes come tt
      anything (whatever_follows bytes come holds) = whatever_follows bytes come (λ more. tt)

-- ---- a file

module _ {E F : Type 0} (env : Ghosts E F) where
  -- of a file that is borrowed
  pub ReplaysRest-borrowed : {left : Replayed} {end : End} {from to : EnvFile E F}
      → ReplaysRest (ReadsBorrowed env) from left end to
      → ChangesBorrowedFile (λ old new. ReplaysFileRest env old left end new) from to
  ReplaysRest-borrowed replays =
      let read = IsReadAsLog-borrowed env replays.read in
      record {
        changes = record {
          records = replays.records;
          replayed = replays.replayed;
          read = read.changes;
        };
        same_env = read.same_env;
        same_file = read.same_file;
      }

  pub StopsReplay-borrowed : {status : Status} {from to : EnvFile E F}
      → StopsReplay (ReadsBorrowed env) from status to
      → ChangesBorrowedFile (λ old new. StopsFileReplay env old status new) from to
  StopsReplay-borrowed (inl stops) =
      let read = StopsReadingFile-borrowed env stops in
      record {
        changes = inl read.changes;
        same_env = read.same_env;
        same_file = read.same_file;
      }
  StopsReplay-borrowed (inr (inr out)) =
      let read = HoldsOfRest-borrowed env out.read in
      let further = read.1.changes in
      let same = further.counted in
      record {
        changes = inl (inl (record {
          still = further.still;
          locks = further.locks;
          file = further.file;
          cause = record {
            later = omega (arith, same);
            ok = tt;
            uncounted = λ excused. same;
            cause = inl (inl out.memory);
          };
        }));
        same_env = read.1.same_env;
        same_file = read.1.same_file;
      }
  StopsReplay-borrowed (inr (inl none)) =
      let read = HoldsOfRest-borrowed env none.has in
      record {
        changes = inr (record {
          code = none.code;
          bytes = read.0;
          further = read.1.changes;
          has = read.2;
        });
        same_env = read.1.same_env;
        same_file = read.1.same_file;
      }
