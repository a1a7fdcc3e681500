-- A record's framing, written fragment by fragment.
use Rattle.std.proofs.Common.{◌≡◌, ◌≢◌, ℕ, zero, suc, ◌+◌, ◌-◌, ◌<◌, ◌≤◌, Bool, true, false, if◌then◌else◌, nat_lt, nat_le, List, [], ◌∷◌, ◌++◌, length, take, drop, refl, sym, ◌∙◌, ap, arith, append_assoc, length-drop, slice_index, Result, Ok, subst, ◌%◌}
use Rattle.std.proofs.lemmas.Bool.{leb-true, leb-false}
use Rattle.std.specs.Int.{w16, w32, to_le_bytes}
use Rattle.leveldb_base.specs.declared.error.Status.{Status}
use Rattle.leveldb_base.specs.Crc.{crc_of, masked}
use Rattle.leveldb_mem.specs.Log.{Fragment, filler, checksum, fragment_bytes, room, record_type, fragment_at, framed_within, framed_record, fragment_of}
use Rattle.leveldb_mem.proofs.LogLemmas.{offset_after_none}
use Rattle.leveldb_mem.specs.Log.Writer.{WriterState, frame, AddsRecord}

-- what is put and the framing of what is left of a record are the whole
pub record GoesOn (size : ℕ) (whole put : List ℕ) (first : Bool) (rest : List ℕ) (offset : ℕ) : Type 0 where
  pub fragments : ℕ
  pub inside : offset < size
  pub some : 0 < length rest
  pub few : length rest + (if first then 1 else 0) ≤ fragments
  pub later : first ≡ false → offset ≡ 0
  pub whole_is : put ++ framed_within fragments size first rest offset ≡ whole

module _ (size : ℕ) where
  pub begins : (put text : List ℕ) (offset : ℕ) → offset < size → text ≢ [] → GoesOn size (put ++ framed_record size text offset) put true text offset
  unfolding framed_record
  begins put [] offset inside some = absurd (some refl)
  begins put (byte ∷ text) offset inside some = record {
    fragments = suc (suc (length text));
    inside = inside;
    some = omega arith;
    few = omega arith;
    later = λ e. cc;
    whole_is = refl;
  }

  -- a last fragment is the rest of a framing
  within_last : (fragments : ℕ) (first : Bool) (rest : List ℕ) (offset : ℕ) → length rest ≤ room size offset
      → framed_within (suc fragments) size first rest offset ≡ fragment_at size (fragment_of (record_type first true) rest) offset
  within_last fragments first rest offset short =
      elim (nat_le (length rest) (room size offset)) as (λ t. nat_le (length rest) (room size offset) ≡ t → elim t as (λ b. List ℕ) [
        | true ↦ fragment_at size (fragment_of (record_type first true) rest) offset
        | false ↦ fragment_at size (fragment_of (record_type first false) (take (room size offset) rest)) offset ++ framed_within fragments size false (drop (room size offset) rest) 0
      ] ≡ fragment_at size (fragment_of (record_type first true) rest) offset) [
        | true ↦ λ e. refl
        | false ↦ λ e. (let long = leb-false (length rest) (room size offset) e in absurd (omega arith))
      ] refl

  -- a fragment that fills its block comes before the framing of what is left
  within_next : (fragments : ℕ) (first : Bool) (rest : List ℕ) (offset : ℕ) → room size offset < length rest
      → framed_within (suc fragments) size first rest offset
      ≡ fragment_at size (fragment_of (record_type first false) (take (room size offset) rest)) offset ++ framed_within fragments size false (drop (room size offset) rest) 0
  within_next fragments first rest offset long =
      let next = fragment_at size (fragment_of (record_type first false) (take (room size offset) rest)) offset ++ framed_within fragments size false (drop (room size offset) rest) 0 in
      elim (nat_le (length rest) (room size offset)) as (λ t. nat_le (length rest) (room size offset) ≡ t → elim t as (λ b. List ℕ) [
        | true ↦ fragment_at size (fragment_of (record_type first true) rest) offset
        | false ↦ next
      ] ≡ next) [
        | true ↦ λ e. (let short = leb-true (length rest) (room size offset) e in absurd (omega arith))
        | false ↦ λ e. refl
      ] refl

  room_start : 8 ≤ size → 0 < room size 0
  room_start large = elim (nat_lt (size - 0) 7) as (λ t. nat_lt (size - 0) 7 ≡ t → 0 < (if t then size else size - 0) - 7) [ true ↦ λ e. omega arith | false ↦ λ e. omega arith ] refl

  module _ (whole put : List ℕ) (first : Bool) (rest : List ℕ) (offset : ℕ) (going : GoesOn size whole put first rest offset) where
    -- the last fragment ends the whole
    pub ends : length rest ≤ room size offset → put ++ fragment_at size (fragment_of (record_type first true) rest) offset ≡ whole
    ends short = by_fragments going.fragments going.few going.whole_is
      where
        by_fragments : (fragments : ℕ) → length rest + (if first then 1 else 0) ≤ fragments → put ++ framed_within fragments size first rest offset ≡ whole → put ++ fragment_at size (fragment_of (record_type first true) rest) offset ≡ whole
        by_fragments zero few is = absurd (omega (arith, going.some))
        by_fragments (suc fragments) few is = ap (λ z. put ++ z) (sym (within_last fragments first rest offset short)) ∙ is

    -- after a fragment that fills its block the rest goes on in the next
    pub goes_on : 8 ≤ size → (part others after : List ℕ) → room size offset < length rest → part ≡ take (room size offset) rest → others ≡ drop (room size offset) rest
        → after ≡ put ++ fragment_at size (fragment_of (record_type first false) part) offset → GoesOn size whole after false others 0
    goes_on large part others after long part_is others_is after_is = by_fragments going.fragments going.few going.whole_is
      where
        next_is : (fragments : ℕ) → after ++ framed_within fragments size false others 0 ≡ put ++ framed_within (suc fragments) size first rest offset
        next_is fragments =
            let text = framed_within fragments size false others 0 in
            ap (λ z. z ++ text) after_is ∙ append_assoc put _ text
            ∙ ap (λ z. put ++ (fragment_at size (fragment_of (record_type first false) z) offset ++ text)) part_is
            ∙ ap (λ z. put ++ (fragment_at size (fragment_of (record_type first false) (take (room size offset) rest)) offset ++ framed_within fragments size false z 0)) others_is
            ∙ ap (λ z. put ++ z) (sym (within_next fragments first rest offset long))

        -- later fragments have data
        fewer : (fragments : ℕ) → length rest + (if first then 1 else 0) ≤ suc fragments → length others ≤ fragments
        fewer fragments few =
            let left = ap length others_is ∙ length-drop (room size offset) rest in
            let some = room_start large in
            elim first as (λ f. (f ≡ false → offset ≡ 0) → length rest + (if f then 1 else 0) ≤ suc fragments → length others ≤ fragments) [
              | true ↦ λ later k. omega arith
              | false ↦ λ later k. (let full = ap (room size) (later refl) in omega arith)
            ] going.later few

        by_fragments : (fragments : ℕ) → length rest + (if first then 1 else 0) ≤ fragments → put ++ framed_within fragments size first rest offset ≡ whole → GoesOn size whole after false others 0
        by_fragments zero few is = absurd (omega (arith, going.some))
        by_fragments (suc fragments) few is = record {
          fragments = fragments;
          inside = omega arith;
          some = omega (arith, ap length others_is, length-drop (room size offset) rest);
          few = omega (arith, fewer fragments few);
          later = λ e. refl;
          whole_is = next_is fragments ∙ is;
        }

-- a header and its data are a fragment's bytes
pub header_is : (sum_bytes length_bytes : List ℕ) (sum type : ℕ) (part : List ℕ) → sum_bytes ≡ to_le_bytes w32 (masked sum) → sum ≡ crc_of (type ∷ part) → length_bytes ≡ to_le_bytes w16 (length part)
    → slice_index sum_bytes 0 ∷ slice_index sum_bytes 1 ∷ slice_index sum_bytes 2 ∷ slice_index sum_bytes 3 ∷ slice_index length_bytes 0 ∷ slice_index length_bytes 1 ∷ type ∷ part
    ≡ fragment_bytes (checksum (fragment_of type part)) (fragment_of type part)
unfolding fragment_bytes checksum
header_is sum_bytes length_bytes sum type part sum_is text_is length_is = rw (sum_is, length_is, text_is) refl

-- filler, a header and its data are a fragment at its offset
pub fragment_put : (size offset : ℕ) (f : Fragment) (before filled headed after header : List ℕ) → filled ≡ before ++ filler size offset → headed ≡ filled ++ header → after ≡ headed ++ f.part
    → header ++ f.part ≡ fragment_bytes (checksum f) f → after ≡ before ++ fragment_at size f offset
unfolding fragment_at
fragment_put size offset f before filled headed after header filled_is headed_is after_is bytes_are =
    after_is ∙ ap (λ z. z ++ f.part) headed_is ∙ append_assoc filled header f.part ∙ ap (λ z. filled ++ z) bytes_are
    ∙ ap (λ z. z ++ fragment_bytes (checksum f) f) filled_is ∙ append_assoc before (filler size offset) (fragment_bytes (checksum f) f)

-- ---- what a call of the writer does

module _ {S : Type 0} (puts : S → List ℕ → Result (Unit {0}) Status → S → Type 0) (old : WriterState) (sink : S) (text : List ℕ) (inside : old.offset < old.size) where
  frame_none : text ≡ [] → frame old text ≡ []
  unfolding framed_record
  frame_none none = ap (frame old) none

  -- an empty record puts nothing
  pub adds_nothing : text ≡ [] → AddsRecord puts old sink text 0 old sink
  adds_nothing none = record {
    counted = sym (ap length (frame_none none));
    writer = ap (λ offset. record old { offset = offset }) (sym (offset_after_none old.size old.offset inside (frame old text) (frame_none none)));
    put = λ some. absurd (some none);
    none_put = λ e. refl;
  }

  -- a record whose framing was put is added
  pub adds : (put : List ℕ) (count : ℕ) (sink_after : S) → text ≢ [] → put ≡ frame old text → count ≡ length put → puts sink put (Ok tt) sink_after
      → AddsRecord puts old sink text count (record old { offset = (old.offset + count) % old.size }) sink_after
  adds put count sink_after some put_is counted was_put =
      let whole : count ≡ length (frame old text) = counted ∙ ap length put_is in
      record {
        counted = whole;
        writer = ap (λ offset. record old { offset = offset }) (ap (λ n. (old.offset + n) % old.size) whole);
        put = λ e. subst (λ bytes. puts sink bytes (Ok tt) sink_after) put_is was_put;
        none_put = λ none. absurd (some none);
      }
