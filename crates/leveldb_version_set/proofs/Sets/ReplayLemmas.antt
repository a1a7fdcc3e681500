-- What the records of a manifest leave, one after another.
use Rattle.std.specs.Prelude.{◌↔◌, Contains, IfSome}
use Rattle.std.proofs.Common.{◌≡◌, ◌⊎◌, inl, inr, ⊎_elim, ℕ, ◌≤◌, List, [], ◌∷◌, ◌++◌, Option, None, Some, refl, sym, ◌∙◌, ap, subst}
use Rattle.std.specs.Option.{option_or}
use Rattle.std.proofs.lemmas.List.Sums.{fold-append}
use Rattle.std.proofs.lemmas.List.Elements.{Contains-append_left, Contains-push, Contains-push_cases}
use Rattle.leveldb_base.specs.Error.{IsOutOfMemory}
use Rattle.leveldb_base.specs.declared.error.Status.{Status}
use Rattle.leveldb_base.specs.declared.error.StatusCode.TheVariants.{Corruption}
use Rattle.leveldb_base.specs.KeyTypes.{greatest_sequence}
use Rattle.leveldb_files.specs.Stores.Batches.{Each}
use Rattle.leveldb_version.specs.Edits.FullEdit.{full_after}
use Rattle.leveldb_files.specs.Stores.Store.{LastNumbersFit}
use Rattle.leveldb_files.specs.Edits.Edit.{Edit, IsEdit, NewFile, empty_edit}
use Rattle.leveldb_version_set.specs.Sets.Replay.{AreLeft, AreReplayedTo, EncodesNoEdit, IsOneMore, LastNumberFits, TakesEdit, with_files}
use Rattle.leveldb_version_set.specs.declared.version_set.replay.Replayed.{Replayed}
use Rattle.leveldb_files.proofs.Edits.VersionSetLemmas.{applies_in_order}

-- ---- lists

pub Each-push : {A B : Type 0} (R : A → B → Type 0) (xs : List A) (ys : List B) (x : A) (y : B) → Each R xs ys → R x y → Each R (xs ++ x ∷ []) (ys ++ y ∷ [])
Each-push R [] [] x y each r = (r, tt)
Each-push R [] (b ∷ ys) x y each r = absurd each
Each-push R (a ∷ xs) [] x y each r = absurd each
Each-push R (a ∷ xs) (b ∷ ys) x y each r = (each.0, Each-push R xs ys x y each.1 r)

-- ---- last sequence numbers

fits_as_one : (last : Option ℕ) (n : ℕ) → IfSome last (λ it. it ≤ greatest_sequence) → last ≡ Some n → n ≤ greatest_sequence
fits_as_one None n fits e = absurd (cc)
fits_as_one (Some it) n fits e = let same : it ≡ n = cc in subst (λ z. z ≤ greatest_sequence) same fits

one_as_fits : (last : Option ℕ) → ((n : ℕ) → last ≡ Some n → n ≤ greatest_sequence) → IfSome last (λ it. it ≤ greatest_sequence)
one_as_fits None fits = tt
one_as_fits (Some it) fits = fits it refl

pub numbers_fit_more : (edits : List Edit) (edit : Edit) → LastNumbersFit (edits ++ edit ∷ []) ↔ (LastNumbersFit edits × LastNumberFits edit)
numbers_fit_more edits edit = (
  λ fit. (
    λ it n there e. fit it n (Contains-append_left edits (edit ∷ []) it there) e,
    one_as_fits edit.last_sequence (λ n e. fit edit n (Contains-push edits edit) e),
  ),
  λ both it n there e. ⊎_elim
      (λ (old : Contains edits it). both.0 it n old e)
      (λ (same : edit ≡ it).
      let P : Edit → Type 0 = λ z. z.last_sequence ≡ Some n in
      fits_as_one edit.last_sequence n both.1 (subst P (sym same) e))
      (Contains-push_cases edits edit it there),
)

-- ---- one edit more

pub left_by_one_more : (edits : List Edit) (edit old_full : Edit) (old : Replayed) (new_full : Edit) (new : Replayed) → AreLeft edits old_full old → IsOneMore edit old_full old new_full new
    → AreLeft (edits ++ edit ∷ []) new_full new
left_by_one_more edits edit old_full old new_full new left more =
    let applied = applies_in_order edits edit in
    let fit = numbers_fit_more edits edit in
    record {
      full = more.full ∙ ap (λ full. full_after full edit) left.full ∙ sym (fold-append full_after empty_edit edits (edit ∷ []));
      log_number = more.log_number ∙ ap (option_or edit.log_number) left.log_number ∙ sym applied.log_number;
      previous_log = more.previous_log ∙ ap (option_or edit.previous_log) left.previous_log ∙ sym applied.previous_log;
      next_file = more.next_file ∙ ap (option_or edit.next_file) left.next_file ∙ sym applied.next_file;
      last_sequence = more.last_sequence ∙ ap (option_or edit.last_sequence) left.last_sequence ∙ sym applied.last_sequence;
      numbers_fit = (
        λ e. let both = more.numbers_fit.0 e in fit.1 (left.numbers_fit.0 both.0, both.1),
        λ all. let both = fit.0 all in more.numbers_fit.1 (left.numbers_fit.1 both.0, both.1),
      );
    }

pub replayed_one_more : (records : List (List ℕ)) (bytes : List ℕ) (old : Replayed) (old_files : List NewFile) (new : Replayed) (new_files : List NewFile)
    → AreReplayedTo records (with_files old.full old_files) old → TakesEdit bytes old old_files new new_files
    → AreReplayedTo (records ++ bytes ∷ []) (with_files new.full new_files) new
replayed_one_more records bytes old old_files new new_files were takes = record {
  edits = were.edits ++ takes.edit ∷ [];
  each = Each-push IsEdit records were.edits bytes takes.edit were.each takes.is_edit;
  left = left_by_one_more were.edits takes.edit (with_files old.full old_files) old (with_files new.full new_files) new were.left takes.more;
}

-- bytes that aren't decoded encode no edit, or memory was out
pub no_edit_decoded : (bytes : List ℕ) (status : Status) → (status.code ≡ Corruption → (edit : Edit) → IsEdit bytes edit → ⊥) → (status.code ≡ Corruption) ⊎ IsOutOfMemory status
    → IsOutOfMemory status ⊎ EncodesNoEdit bytes status
no_edit_decoded bytes status none why = ⊎_elim (λ (code : status.code ≡ Corruption). inr (record { code = code; none = none code })) (λ (memory : IsOutOfMemory status). inl memory) why
