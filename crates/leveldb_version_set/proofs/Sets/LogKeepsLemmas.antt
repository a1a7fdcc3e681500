-- An edit that is appended to a manifest and synced keeps each history; and what a record's framing
-- is made of are bytes.
use Rattle.leveldb_base.specs.Crc.{crc_of, masked}
use Rattle.leveldb_base.specs.Types.{Pair}
use Rattle.leveldb_base.specs.Varint.{little}
use Rattle.leveldb_env.proofs.AppendedLemmas.{append_bytes, bytes_take}
use Rattle.leveldb_env.proofs.EnvLemmas.{appended}
use Rattle.leveldb_env.specs.Env.{AreBytes, Files, PrefixAppended, bytes_of, extended, in_folder}
use Rattle.leveldb_mem.specs.Log.{checksum, filler, fragment_at, fragment_bytes, frame_at, framed_record, framed_within, log_block_size, record_type, room, Fragment}
use Rattle.leveldb_mem.specs.Log.Writer.{frame}
use Rattle.leveldb_files.proofs.Steps.BytesLemmas.{bytes_stay}
use Rattle.leveldb_files.proofs.Steps.KeepsLemmas.{edit_keeps, sync_keeps}
use Rattle.leveldb_files.proofs.Edits.EditLemmas.{one_edit, written_is_read}
use Rattle.leveldb_files.specs.Stores.Contents.{Store}
use Rattle.leveldb_version_set.specs.Sets.LogEdit.{AppendingAndSyncing, edit_record, with_bytes_kept, written_edit}
use Rattle.leveldb_files.specs.Steps.StoreSteps.{AppendedAreBytes, EditRefines, KeepsHistory}
use Rattle.leveldb_version_set.specs.Sets.Tracks.{IsInUse, Tracks}
use Rattle.leveldb_files.specs.Edits.Edit.{Edit, FieldFits, IsEdit, IsEncodable, edit_bytes, edit_of_fields, empty_edit}
use Rattle.leveldb_version_set.specs.Sets.VersionSetValue.{OpenManifest, VersionSetValue, in_use}
use Rattle.std.proofs.Common.{◌++◌, ◌-◌, ◌/◌, ◌%◌, ◌^◌, ◌∷◌, ◌≡◌, ◌<◌, Bool, List, None, Some, [], ap, arith, drop, false, inl, inr, length, nat_le, nat_lt, refl, replicate, subst, suc, sym, take, true, zero, ℕ}
use Rattle.std.proofs.Math.Nat.{mod-lt}
use Rattle.std.proofs.lemmas.List.Elements.{All-nil}
use Rattle.std.specs.Int.{byte_at, bytes_low_first}
use Rattle.std.specs.Prelude.{◌≢◌}
use Rattle.std.specs.declared.cmp.Ordering.{Ordering}

-- ---- bytes

no_bytes : AreBytes []
no_bytes i = omega arith

bytes_drop : (n : ℕ) (bytes : List ℕ) → AreBytes bytes → AreBytes (drop n bytes)
bytes_drop zero bytes are = are
bytes_drop (suc n) [] are = no_bytes
bytes_drop (suc n) (b ∷ bytes) are = bytes_drop n bytes (λ i. are (suc i))

zero_bytes : (n : ℕ) → AreBytes (replicate n 0)
zero_bytes zero i = omega arith
zero_bytes (suc n) zero = omega arith
zero_bytes (suc n) (suc i) = zero_bytes n i

small_byte : (i n : ℕ) → byte_at i n < 256
small_byte zero n = mod-lt n (omega arith)
small_byte (suc i) n = mod-lt (n / 256 ^ suc i) (omega arith)

low_bytes : (i k n : ℕ) → AreBytes (bytes_low_first i k n)
low_bytes i zero n j = omega arith
low_bytes i (suc k) n zero = small_byte i n
low_bytes i (suc k) n (suc j) = low_bytes (suc i) k n j

front_byte : (b : ℕ) (bytes : List ℕ) → b < 256 → AreBytes bytes → AreBytes (b ∷ bytes)
front_byte b bytes small are zero = small
front_byte b bytes small are (suc i) = are i

either_bytes : (b : Bool) (these those : List ℕ) → AreBytes these → AreBytes those
    → AreBytes (elim b [ true ↦ these | false ↦ those ])
either_bytes true these those are others = are
either_bytes false these those are others = others

fragment_are_bytes : (size : ℕ) (f : Fragment) (offset : ℕ) → f.type < 256 → AreBytes f.part
    → AreBytes (fragment_at size f offset)
unfolding fragment_at fragment_bytes checksum
fragment_are_bytes size f offset small are =
    append_bytes (filler size offset) (fragment_bytes (checksum f) f)
    (either_bytes (nat_lt (size - offset) 7) (replicate (size - offset) 0) []
    (zero_bytes (size - offset)) no_bytes)
    (append_bytes (checksum f) (little 2 (length f.part) ++ f.type ∷ f.part)
    (low_bytes 0 4 (masked (crc_of (f.type ∷ f.part))))
    (append_bytes (little 2 (length f.part)) (f.type ∷ f.part) (low_bytes 0 2 (length f.part))
    (front_byte f.type f.part small are)))

small_type : (first last : Bool) → record_type first last < 256
small_type true true = omega arith
small_type true false = omega arith
small_type false true = omega arith
small_type false false = omega arith

within_are_bytes : (count size : ℕ) (first : Bool) (text : List ℕ) (offset : ℕ) → AreBytes text
    → AreBytes (framed_within count size first text offset)
within_are_bytes zero size first text offset are = no_bytes
within_are_bytes (suc count) size first text offset are =
    either_bytes (nat_le (length text) (room size offset))
    (fragment_at size (record { type = record_type first true; part = text }) offset)
    (fragment_at size (record {
      type = record_type first false;
      part = take (room size offset) text;
    }) offset ++ framed_within count size false (drop (room size offset) text) 0)
    (fragment_are_bytes size (record { type = record_type first true; part = text }) offset
    (small_type first true) are)
    (append_bytes (fragment_at size (record {
      type = record_type first false;
      part = take (room size offset) text;
    }) offset) (framed_within count size false (drop (room size offset) text) 0)
    (fragment_are_bytes size (record {
      type = record_type first false;
      part = take (room size offset) text;
    }) offset (small_type first false) (bytes_take (room size offset) text are))
    (within_are_bytes count size false (drop (room size offset) text) 0
    (bytes_drop (room size offset) text are)))

-- the framing of bytes are bytes
pub framed_are_bytes : (size : ℕ) (text : List ℕ) (offset : ℕ) → AreBytes text
    → AreBytes (framed_record size text offset)
unfolding framed_record
framed_are_bytes size [] offset are = no_bytes
framed_are_bytes size (b ∷ text) offset are =
    within_are_bytes (suc (suc (length text))) size true (b ∷ text) offset are

-- ---- records

nothing_is : IsEdit [] empty_edit
unfolding edit_of_fields
nothing_is = record { fields = []; encoded = refl; fits = All-nil FieldFits; made = refl }

-- an edit that says something has bytes
pub bytes_of_some : (edit : Edit) → IsEncodable edit → edit ≢ empty_edit → edit_bytes edit ≢ []
bytes_of_some edit can some e =
    some (one_edit [] edit empty_edit
    (subst (λ bytes. IsEdit bytes edit) e (written_is_read edit can)) nothing_is)

-- a written edit sets the next file's number
pub record_some : (set : VersionSetValue) (edit : Edit) → IsEncodable (written_edit set edit)
    → edit_record set edit ≢ []
record_some set edit can = bytes_of_some (written_edit set edit) can
    (λ e. let never : Some set.next_file ≡ None = ap (λ (it : Edit). it.next_file) e in cc)

-- what the writer of a manifest in use adds for a record
pub frame_is : (store : List ℕ) (files : Files) (edits : List Edit) (manifest : OpenManifest)
    (u : IsInUse store files edits manifest) (text : List ℕ)
    → frame manifest.writer text ≡ frame_at (length (bytes_of u.opened.has_edits.manifest)) text
frame_is store files edits manifest u text = ap (λ w. frame w text) u.writer

module _ (store : List ℕ) (cmp : List ℕ → List ℕ → Ordering)
    (IsTableOf : List ℕ → List Pair → Type 0) (allowed : Store → Type 0) where
  -- steps after one another keep each history
  pub keeps_then : (bound : ℕ) (old mid new : Files)
      → KeepsHistory store cmp IsTableOf allowed bound old mid
      → KeepsHistory store cmp IsTableOf allowed bound mid new
      → KeepsHistory store cmp IsTableOf allowed bound old new
  keeps_then bound old mid new first second = record {
    now = λ history c. second.now history (first.now history c);
    crash = λ durable history safe.
        second.crash durable history (first.crash durable history safe);
  }

  in_use_keeps : (files : Files) (edits : List Edit) (set : VersionSetValue) (edit : Edit)
      (manifest : OpenManifest) (u : IsInUse store files edits manifest) → AppendedAreBytes files
      → IsEncodable (written_edit set edit) → AreBytes (edit_record set edit)
      → (bound : ℕ) → EditRefines store cmp IsTableOf bound files edits (written_edit set edit)
      → (now : Files)
      → AppendingAndSyncing (in_folder store u.opened.has_edits.name)
      (frame_at (length (bytes_of u.opened.has_edits.manifest)) (edit_record set edit)) files now
      → KeepsHistory store cmp IsTableOf allowed bound files now
  in_use_keeps files edits set edit manifest u bytes can record_bytes bound refines now passes =
      by passes
    where
      path : List ℕ
      path = in_folder store u.opened.has_edits.name

      text : List ℕ
      text = frame_at (length (bytes_of u.opened.has_edits.manifest)) (edit_record set edit)

      appends : (files_now : Files) → PrefixAppended path text files files_now
          → KeepsHistory store cmp IsTableOf allowed bound files files_now
      appends files_now part = edit_keeps store cmp IsTableOf allowed files edits u.opened bytes
          (edit_record set edit) (record_some set edit can) (written_edit set edit)
          (written_is_read (written_edit set edit) can) bound refines files_now part

      text_bytes : AreBytes text
      text_bytes = framed_are_bytes log_block_size (edit_record set edit)
          (length (bytes_of u.opened.has_edits.manifest) % log_block_size) record_bytes

      by : AppendingAndSyncing path text files now
          → KeepsHistory store cmp IsTableOf allowed bound files now
      by (inl part) = appends now part
      by (inr is) = subst (KeepsHistory store cmp IsTableOf allowed bound files) (sym is)
          (keeps_then bound files (extended path text files) (with_bytes_kept path text files)
          (appends (extended path text files) (appended path text files))
          (sync_keeps store cmp IsTableOf allowed path (extended path text files)
          ((bytes_stay files bytes).append path text text_bytes path) bound))

  pub appended_edits_keep : (files : Files) (edits : List Edit) (set : VersionSetValue) (edit : Edit)
      → Tracks files edits set → set.store ≡ store → AppendedAreBytes files
      → IsEncodable (written_edit set edit) → AreBytes (edit_record set edit)
      → (bound : ℕ) → EditRefines store cmp IsTableOf bound files edits (written_edit set edit)
      → (manifest : OpenManifest) → set.manifest ≡ in_use manifest → (now : Files)
      → AppendingAndSyncing manifest.path (frame manifest.writer (edit_record set edit)) files now
      → KeepsHistory store cmp IsTableOf allowed bound files now
  appended_edits_keep files edits set edit tracks same bytes can record_bytes bound refines manifest
      is now passes =
      in_use_keeps files edits set edit manifest u bytes can record_bytes bound refines now
      (subst (λ path. AppendingAndSyncing path text files now) u.path
      (subst (λ b. AppendingAndSyncing manifest.path b files now)
      (frame_is store files edits manifest u (edit_record set edit)) passes))
    where
      u : IsInUse store files edits manifest
      u = subst (λ s. IsInUse s files edits manifest) same (tracks.used manifest is)

      text : List ℕ
      text = frame_at (length (bytes_of u.opened.has_edits.manifest)) (edit_record set edit)
