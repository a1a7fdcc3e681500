-- An edit that changes nothing that is shown is logged, into the manifest in use or a new one: the
-- set tracks the store still.
use Rattle.leveldb_base.proofs.NamesLemmas.{made_name}
use Rattle.leveldb_base.specs.Names.{IsFileName, file_name}
use Rattle.leveldb_base.specs.Types.{Pair}
use Rattle.leveldb_base.specs.declared.types.FileType.{FileType}
use Rattle.leveldb_base.specs.declared.types.FileType.TheVariants.{Current, Descriptor, Temp}
use Rattle.leveldb_env.proofs.EnvLemmas.{SameBut-appending, SameBut-synced, SameBut-trans, appended, at_other, at_same}
use Rattle.leveldb_env.specs.Env.{AreBytes, File, Files, SameBut, bytes_of, deleted, extended, in_folder, kept_file}
use Rattle.leveldb_mem.specs.Log.{log_block_size}
use Rattle.leveldb_mem.specs.Log.Writer.{after_frame, frame}
use Rattle.leveldb_files.proofs.Steps.BytesLemmas.{bytes_stay}
use Rattle.leveldb_files.proofs.Edits.CurrentLemmas.{one_current, written_current}
use Rattle.leveldb_files.proofs.Steps.EditNowLemmas.{refine_now}
use Rattle.leveldb_version_set.proofs.Sets.LogKeepsLemmas.{frame_is, framed_are_bytes}
use Rattle.leveldb_files.proofs.Stores.ManagedLemmas.{kinds_apart, managed_on, same_for_others}
use Rattle.leveldb_version_set.proofs.Sets.NewManifestKeepsLemmas.{begun_is_tracked, both_fit, both_same, current_named, elsewhere, manifest_named, same_set, step_one, step_three, step_three_is, step_two, temp_manifest, temp_named, text_file, three_bytes, to_manifest}
use Rattle.leveldb_files.proofs.Histories.SafeLemmas.{by_name}
use Rattle.leveldb_files.proofs.Steps.StaysLemmas.{full_edits_refine, refine_onwards}
use Rattle.leveldb_version_set.proofs.Sets.TrackedLemmas.{numbered_up_to}
use Rattle.leveldb_version_set.proofs.Sets.TracksLemmas.{appended_is_tracked}
use Rattle.leveldb_files.specs.Stores.Contents.{Contents}
use Rattle.leveldb_files.specs.Edits.Current.{IsCurrentText, current_text}
use Rattle.leveldb_version_set.specs.Sets.CurrentFile.{temp_path}
use Rattle.leveldb_version_set.specs.Sets.LogEdit.{edit_record, new_manifest, new_records, set_appended, set_begun, with_bytes_kept, written_edit}
use Rattle.leveldb_version_set.specs.Sets.NewManifest.{MakingManifest, manifest_bytes, with_manifest}
use Rattle.leveldb_files.specs.Stores.Paths.{current_path, manifest_path}
use Rattle.leveldb_version_set.specs.Sets.Recover.{IsNamed}
use Rattle.leveldb_files.specs.Stores.Store.{HasEdits, IsManagedBy}
use Rattle.leveldb_files.specs.Steps.StoreSteps.{AppendedAreBytes, EditRefines, EditsRefine, Refines}
use Rattle.leveldb_version_set.specs.Sets.Tracks.{IsInUse, IsNumberedBelow, Tracks}
use Rattle.leveldb_files.specs.Edits.Edit.{Edit, IsEncodable}
use Rattle.leveldb_files.specs.Edits.VersionSet.{live_after}
use Rattle.leveldb_version_set.specs.Sets.VersionSetValue.{OpenManifest, VersionSetValue, in_use, unmade}
use Rattle.leveldb_version_set.specs.Engines.Writing.{IsTrackedBy, NumbersAreBelow}
use Rattle.std.proofs.Common.{◌++◌, ◌<◌, ◌%◌, ◌∙◌, ◌∷◌, ◌≡◌, ◌≤◌, List, None, Option, Some, [], ap, append-nil, arith, inr, length, refl, subst, sym, ℕ}
use Rattle.std.specs.Prelude.{◌≢◌, IsSomeAnd}
use Rattle.std.specs.declared.cmp.Ordering.{Ordering}

module _ (store : List ℕ) (cmp : List ℕ → List ℕ → Ordering)
    (IsTableOf : List ℕ → List Pair → Type 0) (files : Files) (edits : List Edit)
    (set : VersionSetValue) (t : IsTrackedBy store cmp IsTableOf files edits set)
    (found : Contents) (m : IsManagedBy store cmp IsTableOf files edits found)
    (last_most : found.last ≤ set.last_sequence) (plain : Edit)
    (can : IsEncodable (written_edit set plain))
    (refines : EditRefines store cmp IsTableOf set.last_sequence files edits
    (written_edit set plain)) where
  abbrev edit : Edit
  edit = written_edit set plain

  abbrev then : List Edit
  then = edits ++ edit ∷ []

  -- ---- into the manifest in use

  module _ (manifest : OpenManifest) (is : set.manifest ≡ in_use manifest)
      (bytes : AreBytes (edit_record set plain)) where
    abbrev text : List ℕ
    text = edit_record set plain

    abbrev longer : Files
    longer = extended manifest.path (frame manifest.writer text) files

    abbrev now : Files
    now = with_bytes_kept manifest.path (frame manifest.writer text) files

    v : IsInUse store files edits manifest
    v = subst (λ s. IsInUse s files edits manifest) t.store_is
        (t.tracks.used manifest is)

    -- only the manifest changes
    same_others : SameBut (in_folder store v.opened.has_edits.name) files now
    same_others = subst (λ path. SameBut path files now) v.path
        (SameBut-trans manifest.path
        (SameBut-appending manifest.path (frame manifest.writer text) files longer
        (appended manifest.path (frame manifest.writer text) files))
        (SameBut-synced manifest.path longer now (inr refl)))

    pub same_of : (name : List ℕ) (k : ℕ) (kind : FileType) → IsFileName name k kind
        → Descriptor ≢ kind → now (in_folder store name) ≡ files (in_folder store name)
    same_of name k kind its differ = same_others (in_folder store name)
        (kinds_apart store v.opened.has_edits.name name v.opened.has_edits.number k Descriptor
        kind v.opened.has_edits.named.0 its differ)

    pub there_before : (name : List ℕ) → now (in_folder store name) ≢ None
        → files (in_folder store name) ≢ None
    there_before name = by_name (λ path. now path ≢ None → files path ≢ None)
        (in_folder store v.opened.has_edits.name) (in_folder store name)
        (λ some gone. let never : Some v.opened.has_edits.manifest ≡ None =
        sym v.opened.has_edits.there ∙ gone in cc)
        (λ away some gone. some (same_others (in_folder store name) away ∙ gone))

    pub after : (contents : Contents) × IsManagedBy store cmp IsTableOf files then contents
        × Refines set.last_sequence found contents
    after = refine_now store cmp IsTableOf set.last_sequence files edits then found
        t.bytes refines last_most m

    framed_bytes : AreBytes (frame manifest.writer text)
    framed_bytes = subst AreBytes (sym (frame_is store files edits manifest v text))
        (framed_are_bytes log_block_size text
        (length (bytes_of v.opened.has_edits.manifest) % log_block_size) bytes)

    pub tracks_appended : Tracks now then (set_appended manifest set plain)
    tracks_appended = appended_is_tracked files edits set plain t.tracks can manifest is

    pub has_edits_appended : HasEdits store now then
    has_edits_appended = subst (λ s. HasEdits s now then) t.store_is
        (tracks_appended.used (record manifest { writer = after_frame manifest.writer text })
        refl).opened.has_edits

    pub managed_appended : IsManagedBy store cmp IsTableOf now then after.0
    managed_appended = managed_on store cmp IsTableOf files now then after.0
        (same_for_others store cmp IsTableOf (live_after then) v.opened.has_edits.name
        v.opened.has_edits.number Descriptor files now v.opened.has_edits.named.0 (λ e. cc)
        (λ e. cc) same_others) after.1

    -- `CURRENT` names the manifest that it named
    pub named_appended : (name : List ℕ) (k : ℕ) → IsNamed store now name k
        → k ≡ set.manifest_number
    named_appended name k its = t.number_is manifest is name k
        (subst (λ o. IsSomeAnd o (λ (file : File). IsCurrentText (bytes_of file) name k))
        (same_of (file_name Current 0) 0 Current (made_name Current 0 refl) (λ e. cc)) its)

    pub bytes_appended : AppendedAreBytes now
    bytes_appended = (bytes_stay longer
        ((bytes_stay files t.bytes).append manifest.path (frame manifest.writer text)
        framed_bytes)).sync manifest.path

    -- the set tracks the store still
    abbrev pub appended_tracked : IsTrackedBy store cmp IsTableOf now then
        (set_appended manifest set plain)
    appended_tracked = record {
      tracks = tracks_appended;
      store_is = t.store_is;
      has_edits = has_edits_appended;
      contents = after.0;
      managed = managed_appended;
      numbers = λ name k kind its some. t.numbers name k kind its (there_before name some);
      manifest_below = t.manifest_below;
      number_is = λ used e. named_appended;
      bytes = bytes_appended;
    }

  -- ---- into a new manifest

  module _ (is : set.manifest ≡ unmade) where
    abbrev number : ℕ
    number = set.manifest_number

    abbrev whole : List ℕ
    whole = manifest_bytes (new_records set plain)

    abbrev others : List Edit
    others = set.full ∷ edit ∷ []

    abbrev made : Files
    made = with_manifest store number whole files

    b : IsNumberedBelow store files edits number
    b = subst (λ s. IsNumberedBelow s files edits number) t.store_is
        (t.tracks.not_made is)

    abbrev one_step : Files
    one_step = step_one store number b.fits whole files

    abbrev two_steps : Files
    two_steps = step_two store number b.fits whole files

    abbrev three_steps : Files
    three_steps = step_three store number b.fits whole files

    abbrev text_of : Option File
    text_of = text_file store number b.fits

    three_is : three_steps ≡ made
    three_is = step_three_is store number b.fits whole files

    current_is : three_steps (current_path store) ≡ text_of
    current_is = at_same (current_path store) text_of (deleted (temp_path store number) two_steps)

    making : MakingManifest store number whole files three_steps
    making = record {
      others = λ other x y z.
          at_other (current_path store) text_of (deleted (temp_path store number) two_steps)
          other z
          ∙ at_other (temp_path store number) None two_steps other y
          ∙ at_other (temp_path store number) text_of one_step other y
          ∙ at_other (manifest_path store number) (Some (kept_file whole)) files other x;
      current = inr (
        current_is,
        at_other (current_path store) text_of (deleted (temp_path store number) two_steps)
            (manifest_path store number) (to_manifest store number b.fits)
            ∙ at_other (temp_path store number) None two_steps (manifest_path store number)
            (temp_manifest store number b.fits)
            ∙ at_other (temp_path store number) text_of one_step (manifest_path store number)
            (temp_manifest store number b.fits)
            ∙ at_same (manifest_path store number) (Some (kept_file whole)) files,
      );
    }

    making_made : MakingManifest store number whole files made
    making_made = subst (λ f. MakingManifest store number whole files f) three_is making

    refined_by_both : EditsRefine store cmp IsTableOf set.last_sequence files edits others
    refined_by_both = refine_onwards store cmp IsTableOf set.last_sequence files edits then others
        refines
        (λ left contents leaves honest most x.
        full_edits_refine store cmp IsTableOf set.last_sequence files then others
        (both_same files edits set plain t.tracks can)
        (both_fit files edits set plain t.tracks can x.numbers_fit) left contents leaves
        honest most x)

    pub after_both : (contents : Contents) × IsManagedBy store cmp IsTableOf files others contents
        × Refines set.last_sequence found contents
    after_both = refine_now store cmp IsTableOf set.last_sequence files edits others found
        t.bytes refined_by_both last_most m

    -- a file's number is below the next one
    pub numbers_made : NumbersAreBelow store made set.next_file
    numbers_made name k kind its some =
        by_name (λ path. path ≡ in_folder store name → k < set.next_file)
        (manifest_path store number) (in_folder store name)
        (λ e. numbered_up_to store cmp IsTableOf (file_name Descriptor number) number Descriptor
        (manifest_named store number b.fits) set.next_file t.manifest_below name k kind e
        its)
        (λ no_manifest.
        by_name (λ path. path ≡ in_folder store name → k < set.next_file)
        (temp_path store number) (in_folder store name)
        (λ e. numbered_up_to store cmp IsTableOf (file_name Temp number) number Temp
        (temp_named store number b.fits) set.next_file t.manifest_below name k kind e its)
        (λ no_temp.
        by_name (λ path. path ≡ in_folder store name → k < set.next_file)
        (current_path store) (in_folder store name)
        (λ e. numbered_up_to store cmp IsTableOf (file_name Current 0) 0 Current
        (current_named store number b.fits) set.next_file
        (let more = t.manifest_below in omega (arith, more)) name k kind e its)
        (λ no_current e. t.numbers name k kind its
        (λ gone. some
        (making_made.others (in_folder store name) no_manifest no_temp no_current ∙ gone)))))
        refl

    -- `CURRENT` names the new manifest
    pub named_made : (name : List ℕ) (k : ℕ) → IsNamed store made name k → k ≡ number
    named_made name k its =
        let text = bytes_of (kept_file (current_text number)) in
        sym (one_current text (file_name Descriptor number) name number k
        (subst (λ t. IsCurrentText t (file_name Descriptor number) number)
        (sym (append-nil (current_text number))) (written_current number b.fits))
        (subst (λ o. IsSomeAnd o (λ (file : File). IsCurrentText (bytes_of file) name k))
        (sym (ap (λ (f : Files). f (current_path store)) three_is) ∙ current_is) its)).1

    pub same_made : (name : List ℕ) (k : ℕ) (kind : FileType) → IsFileName name k kind
        → Descriptor ≢ kind → Temp ≢ kind → Current ≢ kind
        → made (in_folder store name) ≡ files (in_folder store name)
    same_made = elsewhere store number b.fits whole files made making_made

    pub tracks_made : Tracks made others (set_begun set plain)
    tracks_made = subst (λ s. Tracks (with_manifest s number whole files) others
        (set_begun set plain)) t.store_is
        (begun_is_tracked files edits set plain t.tracks can is)

    pub has_edits_made : HasEdits store made others
    has_edits_made = subst (λ s. HasEdits s made others) t.store_is
        (tracks_made.used (new_manifest set plain) refl).opened.has_edits

    pub managed_made : IsManagedBy store cmp IsTableOf made others after_both.0
    managed_made = managed_on store cmp IsTableOf files made others after_both.0
        (same_set store number b.fits whole files made making_made (live_after others))
        after_both.1

    pub bytes_made : AppendedAreBytes made
    bytes_made = subst AppendedAreBytes three_is
        (three_bytes store number b.fits whole files t.bytes)

    -- the set tracks the store still
    abbrev pub begun_tracked : IsTrackedBy store cmp IsTableOf made others (set_begun set plain)
    begun_tracked = record {
      tracks = tracks_made;
      store_is = t.store_is;
      has_edits = has_edits_made;
      contents = after_both.0;
      managed = managed_made;
      numbers = numbers_made;
      manifest_below = t.manifest_below;
      number_is = λ used e. named_made;
      bytes = bytes_made;
    }
