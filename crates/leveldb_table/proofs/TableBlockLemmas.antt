-- Calls that read a table's file, one after another.
use Rattle.std.proofs.Common.{◌≡◌, ◌⊎◌, ℕ, List, Result, Ok, Err, refl, sym, ◌∙◌, ap, subst, inl, inr, ⊎_elim, arith, ◌+◌, ◌-◌, ◌≤◌, ◌<◌, ◌^◌, [], ◌++◌, length, take, drop, Option, None, Some, length-append, length-drop, length-take}
use Rattle.std.specs.Prelude.{IfErr, IfOk, IsTrue, IsSomeAnd, IsErrAnd}
use Rattle.std.proofs.Math.Seq.{take-add, take-append-add}
use Rattle.std.proofs.lemmas.List.{drop-drop, length-take-le, take_at, take-append-le}
use Rattle.std.specs.declared.cmp.Ordering.{Ordering}
use borrow.Rule.Slice.PartMut.{put_mid, post_of}
use Rattle.bytes.specs.Filled.{Filled, with_items}
use Rattle.leveldb_base.specs.declared.error.Status.{Status}
use Rattle.leveldb_base.specs.declared.error.StatusCode.{StatusCode}
use Rattle.leveldb_base.specs.declared.error.StatusCode.TheVariants.{Corruption, NotFound, OutOfMemory}
use Rattle.leveldb_base.specs.Error.{IsOutOfMemory}
use Rattle.leveldb_base.specs.BlockHandle.{Handle}
use Rattle.leveldb_base.specs.Types.{Pair}
use Rattle.leveldb_env.specs.Env.{ChangesFiles, FilesUnchanged, SameLocks, HasCause, IsMissing, Files, bytes_of, same, ReadsFrom, ReadsAt, File}
use Rattle.leveldb_env.proofs.EnvLemmas.{Run-call, Run-trans, begun, cause_refused}
use Rattle.leveldb_env.specs.declared.env.Env.{Ghosts}
use Rattle.leveldb_env.specs.Compressor.{Coding, Codings, Decodes, decoded_by, decoded_under}
use Rattle.leveldb_table.specs.TableBlock.{KeepsDisk, FileHas, FailsFor, ReadsFile, ForBytesOf, EndsBefore, StoresNothing, LacksBlock, unstored, undecoded, no_block, IsDamaged, IsLackError, IsUndecodedBy, IsUndecoded}
use Rattle.leveldb_table.specs.Block.{IsNoBlock, IsBlock}
use Rattle.leveldb_table.specs.Table.{StoresAt, HasBlockAt}
use Rattle.leveldb_table.proofs.TableLemmas.{is_there_as, length-with_trailer, stores_one, has_one_block}

-- what is refused with Corruption only where something is missing, and else out of memory
pub damaged_or_memory : {T Missing : Type 0} (result : Result T Status) → (IsErrAnd result (λ status. status.code ≡ Corruption) → Missing)
    → IfErr result (λ status. (status.code ≡ Corruption) ⊎ IsOutOfMemory status) → IfErr result (λ status. IsOutOfMemory status ⊎ ((status.code ≡ Corruption) × Missing))
damaged_or_memory (Ok answer) missing cause = tt
damaged_or_memory (Err status) missing cause = ⊎_elim (λ code. inr (code, missing code)) (λ memory. inl memory) cause

-- what two facts say of an answer
pub ok_by_both : {T E : Type 0} {P Q R : T → Type 0} (result : Result T E) → ((answer : T) → P answer → Q answer → R answer) → IfOk result P → IfOk result Q → IfOk result R
ok_by_both (Ok answer) both p q = both answer p q
ok_by_both (Err error) both p q = tt

memory_no_damage : {code : StatusCode} → code ≡ OutOfMemory → code ≡ Corruption → ⊥
memory_no_damage memory damage = cc

-- an error that is given a place is of the same cause
pub located_as : {status other : Status} {Missing : Type 0} → (other ≡ status) ⊎ ((status.code ≡ Corruption) × (other.code ≡ Corruption)) → IsOutOfMemory status ⊎ ((status.code ≡ Corruption) × Missing)
    → IsOutOfMemory other ⊎ ((other.code ≡ Corruption) × Missing)
located_as {status} {other} {Missing} how why =
    ⊎_elim (λ (same : other ≡ status). subst (λ z. IsOutOfMemory z ⊎ ((z.code ≡ Corruption) × Missing)) (sym same) why)
    (λ (codes : (status.code ≡ Corruption) × (other.code ≡ Corruption)). ⊎_elim (λ (memory : IsOutOfMemory status). absurd (memory_no_damage memory.0 codes.0)) (λ damaged. inr (codes.1, damaged.1)) why) how

-- a file that is missing has no bytes
missing_clash : (bytes : List ℕ) (found : Option File) → found ≡ None → IsSomeAnd found (λ file. bytes_of file ≡ bytes) → ⊥
missing_clash bytes None none there = there
missing_clash bytes (Some file) none there = cc

module _ {E F : Type 0} (env : Ghosts E F) where
  -- ---- looking

  -- the disk's files, where it is observed
  pub same_files : {old new : E} → KeepsDisk env old new → IsTrue env.models_disk → (env.observed new).disk.files ≡ (env.observed old).disk.files
  same_files kept_disk modelled = (kept_disk.disk modelled).has

  -- no call
  pub KeepsDisk-refl : (state : E) → KeepsDisk env state state
  KeepsDisk-refl state = record { disk = λ modelled. begun (env.observed state) refl; locks = λ modelled. refl }

  -- one after another
  pub KeepsDisk-trans : {old mid new : E} → KeepsDisk env old mid → KeepsDisk env mid new → KeepsDisk env old new
  KeepsDisk-trans {old} {mid} {new} first second = record {
    disk = λ modelled. Run-trans (first.disk modelled) (λ files e. e ∙ same_files first modelled) (second.disk modelled);
    locks = λ modelled. second.locks modelled ∙ first.locks modelled;
  }

  -- one call that leaves the files as they are
  pub KeepsDisk-call : {T : Type 0} {old new : E} {change : Files → Files} {result : Result T Status} → ChangesFiles env.models_disk change FilesUnchanged (env.observed old) (env.observed new) result
      → SameLocks env.models_disk (env.observed old) (env.observed new) → KeepsDisk env old new
  KeepsDisk-call does locks = record { disk = λ modelled. Run-call modelled does; locks = locks }

  -- ---- what a file has

  -- the same bytes after a look as before
  pub FileHas-after : {old new : E} {file : F} {bytes : List ℕ} → KeepsDisk env old new → FileHas env old file bytes → FileHas env new file bytes
  FileHas-after {old} {new} {file} {bytes} kept_disk has = record {
    modelled = has.modelled;
    there = subst (λ files. IsSomeAnd (files (env.name_of file)) (λ found_file. bytes_of found_file ≡ bytes)) (sym (same_files kept_disk has.modelled)) has.there;
    fits = has.fits;
  }

  pub ForBytesOf-before : {old new : E} (file : F) (P : List ℕ → Type 0) → KeepsDisk env old new → ForBytesOf env new file P → ForBytesOf env old file P
  ForBytesOf-before file P kept_disk all bytes has = all bytes (FileHas-after kept_disk has)

  -- ---- why a call fails

  -- an Ok call
  pub fails_ok : {T : Type 0} {Why : Status → Type 0} {old new : E} {answer : T} → env.failures new ≡ env.failures old → FailsFor env Why old new (Ok answer)
  fails_ok counted = record { later = omega (arith, counted); ok = counted; uncounted = tt; cause = tt }

  -- a refusal of the code's own, after Ok calls, or out of memory
  pub fails_own : {T : Type 0} {Why P : Status → Type 0} {old new : E} (result : Result T Status) → env.failures new ≡ env.failures old → IsErrAnd result P
      → ((status : Status) → P status → IsOutOfMemory status ⊎ Why status) → FailsFor env Why old new result
  fails_own (Ok answer) counted refused why = absurd refused
  fails_own (Err status) counted refused why = record {
    later = omega (arith, counted);
    ok = tt;
    uncounted = λ excuse. counted;
    cause = inl (⊎_elim (λ memory. inl memory) (λ own. inr (counted, own)) (why status refused));
  }

  -- one call of the environment that says that the file is missing, which is damage
  pub fails_missing : {T U : Type 0} {old new : E} (file : F) (status : Status) (result : Result U Status) → status.code ≡ NotFound → IsErrAnd result (λ other. other.code ≡ Corruption)
      → HasCause {T = T} (IsMissing env.models_disk (env.name_of file) (env.observed old)) (env.failures old) (env.failures new) (Err status)
      → FailsFor env (IsDamaged env (λ _. ⊥) old file) old new result
  fails_missing file status (Ok answer) code damaged cause = absurd damaged
  fails_missing {old = old} file status (Err other) code damaged cause = record {
    later = cause.later;
    ok = tt;
    uncounted = λ excuse. ⊎_elim (λ memory. absurd (cc)) (λ own. own.0) excuse;
    cause = ⊎_elim
        (λ missing. inl (inr (cause.uncounted missing, (damaged, λ bytes has. ⊎_elim (λ memory. cc) (λ none. missing_clash bytes _ (none.1 has.modelled) has.there) missing))))
        (λ counted. inr counted) cause.cause;
  }

  -- a call after Ok ones, whose reason is one of the whole's
  pub fails_after : {T : Type 0} {Part Why : Status → Type 0} {old mid new : E} (result : Result T Status) → KeepsDisk env old mid → env.failures mid ≡ env.failures old
      → ((status : Status) → Part status → Why status) → FailsFor env Part mid new result → FailsFor env Why old new result
  fails_after (Ok answer) kept_disk counted why cause = record { later = omega (arith, counted, cause.later); ok = cause.ok ∙ counted; uncounted = tt; cause = tt }
  fails_after (Err status) kept_disk counted why cause = record {
    later = omega (arith, counted, cause.later);
    ok = tt;
    uncounted = λ excuse. ⊎_elim (λ memory. cause.uncounted (inl memory) ∙ counted) (λ own. own.0) excuse;
    cause = ⊎_elim (λ excuse. inl (⊎_elim (λ memory. inl memory) (λ own. inr (own.0 ∙ counted, why status own.1)) excuse))
        (λ more. inr (⊎_elim (λ one. inl (one ∙ ap (λ n. n + 1) counted)) (λ full. inr (sym counted ∙ full.0, full.1 ∙ counted)) more)) cause.cause;
  }

  -- more reasons
  pub fails_weaker : {T : Type 0} {Part Why : Status → Type 0} {old new : E} (result : Result T Status) → ((status : Status) → Part status → Why status)
      → FailsFor env Part old new result → FailsFor env Why old new result
  fails_weaker {old = old} result why cause = fails_after result (KeepsDisk-refl old) refl why cause

  -- a refusal that is passed on as another type of answer
  pub fails_refused : {T U : Type 0} {Why : Status → Type 0} {old new : E} {status : Status} (result : Result U Status) → IsErrAnd result (λ other. other ≡ status)
      → FailsFor env {T = T} Why old new (Err status) → FailsFor env Why old new result
  fails_refused (Ok answer) same cause = absurd same
  fails_refused {T} {U} {Why} {old} {new} (Err other) same cause =
      subst (λ z. FailsFor env {T = U} Why old new (Err z)) (sym same) (cause_refused {T = T} {U = U} cause)

  -- ---- reading

  -- Ok calls
  pub reads_ok : {T : Type 0} {Why : Status → Type 0} {old new : E} {answer : T} → KeepsDisk env old new → env.failures new ≡ env.failures old → ReadsFile env Why old new (Ok answer)
  reads_ok kept_disk counted = record { kept_disk = kept_disk; cause = fails_ok counted }

  -- Ok calls, and then a refusal of the code's own or out of memory
  pub reads_own : {T : Type 0} {Why P : Status → Type 0} {old new : E} (result : Result T Status) → KeepsDisk env old new → env.failures new ≡ env.failures old → IsErrAnd result P
      → ((status : Status) → P status → IsOutOfMemory status ⊎ Why status) → ReadsFile env Why old new result
  reads_own result kept_disk counted refused why = record { kept_disk = kept_disk; cause = fails_own result counted refused why }

  -- Ok calls, and then another's refusal that is passed on
  pub reads_passed : {T : Type 0} {Why : Status → Type 0} {old new : E} {status : Status} (result : Result T Status) → KeepsDisk env old new → env.failures new ≡ env.failures old
      → IsErrAnd result (λ other. other ≡ status) → IsOutOfMemory status ⊎ Why status → ReadsFile env Why old new result
  reads_passed {Why = Why} {status = status} result kept_disk counted refused why =
      reads_own {P = λ other. other ≡ status} result kept_disk counted refused (λ other is. subst (λ z. IsOutOfMemory z ⊎ Why z) (sym is) why)

  -- Ok calls, and then an answer of the code's own, which may be a refusal
  pub reads_ends : {T : Type 0} {Why : Status → Type 0} {old new : E} (result : Result T Status) → KeepsDisk env old new → env.failures new ≡ env.failures old
      → IfErr result (λ status. IsOutOfMemory status ⊎ Why status) → ReadsFile env Why old new result
  reads_ends (Ok answer) kept_disk counted why = reads_ok kept_disk counted
  reads_ends {Why = Why} (Err status) kept_disk counted why = reads_passed {Why = Why} (Err status) kept_disk counted refl why

  -- a call after Ok ones, whose reason is one of the whole's
  pub reads_then : {T : Type 0} {Part Why : Status → Type 0} {old mid new : E} (result : Result T Status) → KeepsDisk env old mid → env.failures mid ≡ env.failures old
      → ((status : Status) → Part status → Why status) → ReadsFile env Part mid new result → ReadsFile env Why old new result
  reads_then result kept_disk counted why reads = record { kept_disk = KeepsDisk-trans kept_disk reads.kept_disk; cause = fails_after result kept_disk counted why reads.cause }

  -- more reasons
  pub reads_weaker : {T : Type 0} {Part Why : Status → Type 0} {old new : E} (result : Result T Status) → ((status : Status) → Part status → Why status)
      → ReadsFile env Part old new result → ReadsFile env Why old new result
  reads_weaker result why reads = record { kept_disk = reads.kept_disk; cause = fails_weaker result why reads.cause }

  -- a refusal that is passed on as another type of answer
  pub reads_refused : {T U : Type 0} {Why : Status → Type 0} {old new : E} {status : Status} (result : Result U Status) → IsErrAnd result (λ other. other ≡ status)
      → ReadsFile env {T = T} Why old new (Err status) → ReadsFile env Why old new result
  reads_refused result same reads = record { kept_disk = reads.kept_disk; cause = fails_refused result same reads.cause }

-- Bytes of a file that are gathered by one read after another.

-- ---- room after what is there

-- what is written after the first bytes
module _ (xs ys : List ℕ) (at : ℕ) (inside : at ≤ length xs) where
  length-put_after : length ys ≡ length xs - at → length (put_mid at (length xs - at) xs ys) ≡ length xs
  length-put_after long =
      let rest : length (drop (length xs - at) (drop at xs)) ≡ 0 = omega (arith, length-drop (length xs - at) (drop at xs), length-drop at xs) in
      omega (arith, rest, long, length-append (take at xs) (ys ++ post_of at (length xs - at) xs), length-append ys (post_of at (length xs - at) xs), length-take-le at xs inside)

  take-put_after : (room count : ℕ) → count ≤ length ys → take (at + count) (put_mid at room xs ys) ≡ take at xs ++ take count ys
  take-put_after room count fits =
      let front = length-take-le at xs inside in
      sym (ap (λ n. take (n + count) (put_mid at room xs ys)) front)
      ∙ take-append-add (take at xs) (ys ++ post_of at room xs) count
      ∙ ap (λ z. take at xs ++ z) (take-append-le count ys (post_of at room xs) fits)

-- a buffer whose bytes after the first ones were written, and which is cut after some of those
pub cut_after : (buffer : Filled) (xs ys : List ℕ) (at count : ℕ) → xs ≡ buffer.items → at ≤ length xs → length ys ≡ length xs - at → count ≤ length ys
    → take (at + count) (with_items buffer (put_mid at (length xs - at) xs ys)).items ≡ take at xs ++ take count ys
cut_after buffer xs ys at count is inside long fits =
    let held = put_mid at (length xs - at) xs ys in
    let same : length held ≡ length buffer.items = length-put_after xs ys at inside long ∙ ap length is in
    ap (take (at + count)) (take_at held (drop (length held) buffer.items) (length buffer.items) same) ∙ take-put_after xs ys at inside (length xs - at) count fits

pub length-with_items : (buffer : Filled) (xs : List ℕ) → length (with_items buffer xs).items ≡ length buffer.items
length-with_items buffer xs =
    let long : length buffer.items ≤ length (xs ++ drop (length xs) buffer.items) = omega (arith, length-append xs (drop (length xs) buffer.items), length-drop (length xs) buffer.items) in
    length-take-le (length buffer.items) (xs ++ drop (length xs) buffer.items) long

-- ---- one read after another

module _ {E F : Type 0} (env : Ghosts E F) where
  -- what a read of a file gives of its bytes
  pub reads_of : {offset count : ℕ} {target bytes : List ℕ} (found : Option File) → IsSomeAnd found (λ found_file. bytes_of found_file ≡ bytes) → ReadsAt found offset count target → ReadsFrom offset count target bytes
  reads_of None there reads = absurd there
  reads_of {offset} {count} {target} (Some found_file) same reads = subst (ReadsFrom offset count target) same reads

  -- these bytes of the file from an offset on were read by Ok calls
  pub record HasRead (old : E) (file : F) (offset : ℕ) (read : List ℕ) (new : E) : Type 0 where
    pub kept_disk : KeepsDisk env old new
    pub counted : env.failures new ≡ env.failures old
    pub bytes : ForBytesOf env old file (λ bytes. read ≡ take (length read) (drop offset bytes))

  -- none yet
  pub gathers_none : (state : E) (file : F) (offset : ℕ) (read : List ℕ) → read ≡ [] → HasRead state file offset read state
  gathers_none state file offset read none = record {
    kept_disk = KeepsDisk-refl env state;
    counted = refl;
    bytes = λ bytes has. none ∙ sym (ap (λ z. take (length z) (drop offset bytes)) none);
  }

  module _ (old mid : E) (file : F) (offset : ℕ) (read : List ℕ) (gathers : HasRead old file offset read mid) where
    after_is : (next : ℕ) (bytes : List ℕ) → next ≡ offset + length read → drop (length read) (drop offset bytes) ≡ drop next bytes
    after_is next bytes at = drop-drop (length read) offset bytes ∙ ap (λ n. drop n bytes) (sym at)

    -- one read more
    pub gathers_more : {new : E} (next count : ℕ) (target more : List ℕ) → next ≡ offset + length read → count ≤ length target → more ≡ read ++ take count target
        → KeepsDisk env mid new → env.failures new ≡ env.failures mid → ForBytesOf env mid file (ReadsFrom next count target) → HasRead old file offset more new
    gathers_more next count target more at fits is kept counted reads = record {
      kept_disk = KeepsDisk-trans env gathers.kept_disk kept;
      counted = counted ∙ gathers.counted;
      bytes = λ bytes has.
          let from = reads bytes (FileHas-after env gathers.kept_disk has) in
          let long : length more ≡ length read + count = omega (arith, ap length is, length-append read (take count target), length-take-le count target fits) in
          is ∙ ap (λ z. z ++ take count target) (gathers.bytes bytes has)
          ∙ ap (λ z. take (length read) (drop offset bytes) ++ z) (from.bytes_are ∙ ap (take count) (sym (after_is next bytes at)))
          ∙ sym (take-add (length read) count (drop offset bytes)) ∙ ap (λ n. take n (drop offset bytes)) (sym long);
    }

    -- no bytes come where some are wanted: the file ends before
    pub ends_here : (size next : ℕ) (target : List ℕ) → length read < size → next ≡ offset + length read → 0 < length target
        → ForBytesOf env mid file (ReadsFrom next 0 target) → ForBytesOf env old file (λ bytes. EndsBefore bytes offset size)
    ends_here size next target wanted at room reads bytes has =
        let from = reads bytes (FileHas-after env gathers.kept_disk has) in
        ⊎_elim (λ (none : target ≡ []). absurd (omega (arith, room, ap length none)))
        (λ (none : drop next bytes ≡ []). omega (arith, wanted, ap length (after_is next bytes at ∙ none), length-drop (length read) (drop offset bytes))) (from.none refl)

    -- nor does a file have so many bytes that a position after them passes 64 bits
    pub ends_within : (size : ℕ) → length read < size → (offset + length read < 2 ^ 64 → ⊥) → ForBytesOf env old file (λ bytes. EndsBefore bytes offset size)
    ends_within size wanted far bytes has = omega (arith, wanted, far, has.fits, length-drop offset bytes)

-- nothing is stored where the file ends before
pub ends_stored : {bytes : List ℕ} {handle : Handle} {offset size total : ℕ} → offset ≡ handle.offset → size ≡ handle.size → total ≡ size + 5 → EndsBefore bytes offset total → StoresNothing bytes handle
ends_stored {bytes} {handle} at sized whole ends id stored there =
    let rest = drop handle.offset bytes in
    let room : length rest < handle.size + 5 = omega (arith, whole, sized, ends, ap (λ n. length (drop n bytes)) at) in
    omega (arith, room, ap length (is_there_as there), length-take (handle.size + 5) rest, length-with_trailer id stored, there.size)

-- Why no block is read at a handle, though something may be stored there.

-- ---- no block is there

-- no block is at the handle
abbrev pub HasNoBlock : Codings → (List ℕ → List ℕ → Ordering) → List ℕ → Handle → Type 0
HasNoBlock codings cmp bytes handle = (text : List ℕ) (pairs : List Pair) → HasBlockAt (Decodes codings) bytes handle text → IsBlock cmp text pairs → ⊥

-- what isn't decoded has no text
undecoded_none : (coding : Option Coding) (id : ℕ) (stored : List ℕ) (status : Status) → IsUndecodedBy coding id stored status → decoded_under coding stored ≡ None
undecoded_none None id stored status why = refl
undecoded_none (Some coding) id stored status why = why.0

none_some : {T : Type 0} {x : T} → None ≡ Some x → ⊥
none_some e = cc

-- where a block is lacking, none is there
pub lacks_none : {codings : Codings} {cmp : List ℕ → List ℕ → Ordering} {bytes : List ℕ} {handle : Handle} {status : Status} → LacksBlock codings cmp bytes handle status → HasNoBlock codings cmp bytes handle
lacks_none (unstored none code) text pairs there block = none there.id there.stored there.is_there
lacks_none {codings} {status = status} (undecoded id stored is_there why) text pairs there block =
    let same = stores_one is_there there.is_there in
    none_some (sym (undecoded_none (codings id) id stored status why) ∙ ap (λ z. decoded_by codings z stored) same.0 ∙ ap (decoded_by codings there.id) same.1 ∙ there.decoded)
lacks_none {codings} {cmp} (no_block found is_there none code) text pairs there block =
    none pairs (subst (λ z. IsBlock cmp z pairs) (sym (has_one_block codings is_there there)) block)

-- ---- why a block isn't read

module _ {E F : Type 0} (env : Ghosts E F) (codings : Codings) (cmp : List ℕ → List ℕ → Ordering) (state : E) (file : F) (handle : Handle) where
  abbrev Lacks : Status → Type 0
  Lacks status = IsLackError env codings (λ bytes. LacksBlock codings cmp bytes handle) state file status

  -- the stored bytes weren't read
  pub lacks_stored : (status : Status) → IsDamaged env (λ bytes. StoresNothing bytes handle) state file status → Lacks status
  lacks_stored status damaged = (inl damaged.0, λ bytes has. unstored (damaged.1 bytes has) damaged.0)

  module _ {id : ℕ} {stored : List ℕ} (is_there : ForBytesOf env state file (λ bytes. StoresAt bytes handle id stored)) where
    lacks_decoded : (status : Status) → IsUndecoded codings id stored status → Lacks status
    lacks_decoded status why = (inr (id, stored, why), λ bytes has. undecoded id stored (is_there bytes has) why)

    -- they aren't decoded
    pub lacks_undecoded : {status : Status} → IsOutOfMemory status ⊎ IsUndecoded codings id stored status → IsOutOfMemory status ⊎ Lacks status
    lacks_undecoded {status} why = ⊎_elim (λ memory. inl memory) (λ (none : IsUndecoded codings id stored status). inr (lacks_decoded status none)) why

    -- they are decoded to what is no block
    pub lacks_block : {text : List ℕ} → Decodes codings id stored text → (status : Status) → IsOutOfMemory status ⊎ ((status.code ≡ Corruption) × IsNoBlock cmp text) → IsOutOfMemory status ⊎ Lacks status
    lacks_block {text} decoded status why = ⊎_elim (λ memory. inl memory) (λ (damaged : (status.code ≡ Corruption) × IsNoBlock cmp text). inr (
      inl damaged.0,
      λ bytes has. no_block text (record { id = id; stored = stored; is_there = is_there bytes has; decoded = decoded }) damaged.1 damaged.0,
    )) why
