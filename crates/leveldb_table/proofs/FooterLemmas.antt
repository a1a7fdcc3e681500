-- Each footer has 48 bytes and one reading.
use Rattle.std.proofs.Common.{◌≡◌, ℕ, ◌-◌, List, ◌++◌, length, replicate, Option, None, Some, refl, sym, ◌∙◌, ap, arith, append_assoc, length-append, ◌+◌, ◌≤◌, [], take, drop, subst, append-nil}
use Rattle.std.proofs.lemmas.List.{length-replicate, take_rest, drop-drop, drop-take, drop_at, take-append-drop, length-take, length-take-le, length-drop}
use Rattle.std.proofs.Math.Seq.{take-append_seam, drop-append_seam}
use Rattle.std.proofs.Math.ListN.{drop_of_length-le}
use borrow.Rule.Slice.PartMut.{put_mid}
use Rattle.leveldb_base.specs.BlockHandle.{Handle, HandleFits, handle_bytes, ReadsHandle}
use Rattle.leveldb_base.proofs.BlockHandleLemmas.{one_handle, length-handle_bytes}
use Rattle.leveldb_table.specs.Footer.{magic, filled, footer_bytes, ReadsFooter}
use Rattle.leveldb_table.specs.declared.table_builder.footer.Footer.{Footer}
use Rattle.leveldb_table.specs.TableReader.{EndsInFooter}

-- the zeros between the handles and the magic bytes
abbrev pub zeros : Handle → Handle → List ℕ
zeros meta index = replicate (40 - length (handle_bytes meta ++ handle_bytes index)) 0

-- handles, then the rest
pub footer-append : (meta index : Handle) → footer_bytes meta index ≡ handle_bytes meta ++ (handle_bytes index ++ (zeros meta index ++ magic))
unfolding footer_bytes
footer-append meta index =
    append_assoc (handle_bytes meta ++ handle_bytes index) (zeros meta index) magic ∙ append_assoc (handle_bytes meta) (handle_bytes index) (zeros meta index ++ magic)

-- a footer's bytes have one reading
pub one_footer : (meta index other_meta other_index : Handle) → footer_bytes meta index ≡ footer_bytes other_meta other_index → (meta ≡ other_meta) × (index ≡ other_index)
one_footer meta index other_meta other_index e =
    let first = one_handle meta other_meta (handle_bytes index ++ (zeros meta index ++ magic)) (handle_bytes other_index ++ (zeros other_meta other_index ++ magic))
    (sym (footer-append meta index) ∙ e ∙ footer-append other_meta other_index) in
    let second = one_handle index other_index (zeros meta index ++ magic) (zeros other_meta other_index ++ magic) first.1 in
    (first.0, second.0)

-- both handles are in the first forty bytes
pub length-filled : (meta index : Handle) → HandleFits meta → HandleFits index → length (filled 40 (handle_bytes meta ++ handle_bytes index)) ≡ 40
length-filled meta index meta_fits index_fits =
    let first = length-handle_bytes meta meta_fits in
    let second = length-handle_bytes index index_fits in
    let handles = length-append (handle_bytes meta) (handle_bytes index) in
    let whole = length-append (handle_bytes meta ++ handle_bytes index) (zeros meta index) in
    let rest = length-replicate {A = ℕ} (40 - length (handle_bytes meta ++ handle_bytes index)) 0 in
    omega (arith, first, second, handles, whole, rest)

-- a footer has 48 bytes
pub length-footer_bytes : (meta index : Handle) → HandleFits meta → HandleFits index → length (footer_bytes meta index) ≡ 48
unfolding footer_bytes
length-footer_bytes meta index meta_fits index_fits =
    let front = length-filled meta index meta_fits index_fits in
    let whole = length-append (filled 40 (handle_bytes meta ++ handle_bytes index)) magic in
    omega (arith, front, whole)

-- how long a footer is, for tactics
pub ruleset footer_lengths = (length-footer_bytes)

footer_of : Handle → Handle → Footer
footer_of meta index = record { meta_index = meta; index = index }

same_footer : (one other : Footer) → one.meta_index ≡ other.meta_index → one.index ≡ other.index → other ≡ one
unfolding footer_of
same_footer one other e f = sym (ap (λ h. footer_of h one.index) e ∙ ap (λ h. footer_of other.meta_index h) f)

-- a footer that was written is read
pub read_footer : (footer : Footer) (answer : Option Footer) → HandleFits footer.meta_index → HandleFits footer.index
    → ReadsFooter (footer_bytes footer.meta_index footer.index) answer → answer ≡ Some footer
read_footer footer None meta_fits index_fits none = absurd (none footer.meta_index footer.index meta_fits index_fits refl)
read_footer footer (Some read) meta_fits index_fits reads =
    let same = one_footer footer.meta_index footer.index read.meta_index read.index reads.2 in
    ap Some (same_footer footer read same.0 same.1)

-- What the bytes of a footer are, part by part, and how they are written one part after the other.

-- the parts of bytes that are a footer
module _ (bytes : List ℕ) (meta index : Handle) (meta_fits : HandleFits meta) (index_fits : HandleFits index) (e : bytes ≡ footer_bytes meta index) where
  pub footer-length : length bytes ≡ 48
  footer-length = ap length e ∙ length-footer_bytes meta index meta_fits index_fits

  pub footer-end : drop 40 bytes ≡ magic
  unfolding footer_bytes
  footer-end =
      let handles = filled 40 (handle_bytes meta ++ handle_bytes index) in
      let at = length-filled meta index meta_fits index_fits in
      ap (drop 40) e ∙ subst (λ n. drop n (handles ++ magic) ≡ magic) at (drop-append_seam handles magic)

  pub footer-front : take 40 bytes ≡ handle_bytes meta ++ (handle_bytes index ++ zeros meta index)
  unfolding footer_bytes
  footer-front =
      let handles = filled 40 (handle_bytes meta ++ handle_bytes index) in
      let at = length-filled meta index meta_fits index_fits in
      ap (take 40) e ∙ subst (λ n. take n (handles ++ magic) ≡ handles) at (take-append_seam handles magic)
      ∙ append_assoc (handle_bytes meta) (handle_bytes index) (zeros meta index)

-- bytes of another number are no footer
pub no_footer_of_length : (bytes : List ℕ) → (length bytes ≡ 48 → ⊥) → ReadsFooter bytes None
no_footer_of_length bytes other meta index meta_fits index_fits e = other (footer-length bytes meta index meta_fits index_fits e)

-- nor are bytes with another end
pub no_footer_of_end : (bytes : List ℕ) → (drop 40 bytes ≡ magic → ⊥) → ReadsFooter bytes None
no_footer_of_end bytes other meta index meta_fits index_fits e = other (footer-end bytes meta index meta_fits index_fits e)

-- nor with no handle in front
pub no_footer_of_meta : (bytes : List ℕ) → ReadsHandle (take 40 bytes) None → ReadsFooter bytes None
no_footer_of_meta bytes none meta index meta_fits index_fits e =
    none meta (handle_bytes index ++ zeros meta index) meta_fits (footer-front bytes meta index meta_fits index_fits e)

-- the first handle is known, and what is after it
module _ (bytes : List ℕ) (first : Handle) (used : ℕ) (reads : ReadsHandle (take 40 bytes) (Some (first, used))) where
  after : (meta index : Handle) → HandleFits meta → HandleFits index → bytes ≡ footer_bytes meta index
      → (first ≡ meta) × (drop used (take 40 bytes) ≡ handle_bytes index ++ zeros meta index)
  after meta index meta_fits index_fits e =
      one_handle first meta (drop used (take 40 bytes)) (handle_bytes index ++ zeros meta index) (sym reads.2 ∙ footer-front bytes meta index meta_fits index_fits e)

  -- nor with no second handle after it
  pub no_footer_of_index : ReadsHandle (drop used (take 40 bytes)) None → ReadsFooter bytes None
  no_footer_of_index none meta index meta_fits index_fits e =
      none index (zeros meta index) index_fits (after meta index meta_fits index_fits e).1

  -- the second is known too
  module _ (second : Handle) (more : ℕ) (reads_more : ReadsHandle (drop used (take 40 bytes)) (Some (second, more))) where
    abbrev filler : List ℕ
    filler = drop (used + more) (take 40 bytes)

    -- nor with other filler
    pub no_footer_of_filler : (filler ≡ replicate (length filler) 0 → ⊥) → ReadsFooter bytes None
    no_footer_of_filler other meta index meta_fits index_fits e =
        let there = after meta index meta_fits index_fits e in
        let left = one_handle second index (drop more (drop used (take 40 bytes))) (zeros meta index) (sym reads_more.2 ∙ there.1) in
        let same : filler ≡ zeros meta index = sym (drop-drop more used (take 40 bytes)) ∙ left.1 in
        other (same ∙ ap (λ n. replicate n 0) (sym (ap length same ∙ length-replicate (40 - length (handle_bytes meta ++ handle_bytes index)) 0)))

    -- what is none of these is a footer
    pub is_footer : length bytes ≡ 48 → drop 40 bytes ≡ magic → filler ≡ replicate (length filler) 0 → bytes ≡ footer_bytes first second
    unfolding footer_bytes
    is_footer long ends fills =
        let handles = handle_bytes first ++ handle_bytes second in
        let encoded : take 40 bytes ≡ handles ++ filler =
        reads.2 ∙ ap (λ z. handle_bytes first ++ z) (reads_more.2 ∙ ap (λ z. handle_bytes second ++ z) (drop-drop more used (take 40 bytes)))
        ∙ sym (append_assoc (handle_bytes first) (handle_bytes second) filler) in
        let front = length-take-le 40 bytes (omega arith) in
        let count : length filler ≡ 40 - length handles = omega (arith, ap length encoded, length-append handles filler) in
        sym (take-append-drop 40 bytes) ∙ ap (λ z. z ++ drop 40 bytes) (encoded ∙ ap (λ z. handles ++ z) (fills ∙ ap (λ n. replicate n 0) count))
        ∙ ap (λ z. filled 40 handles ++ z) ends

-- ---- writing

-- what is written after a front, which is over the first bytes of what was there
pub write_part : (front old part xs ys : List ℕ) (at count : ℕ) → xs ≡ front ++ drop at old → length front ≡ at → ys ≡ part
    → put_mid at count xs ys ≡ (front ++ part) ++ drop (at + count) old
write_part front old part xs ys at count e long same =
    let before : take at xs ≡ front = ap (take at) e ∙ subst (λ n. take n (front ++ drop at old) ≡ front) long (take-append_seam front (drop at old)) in
    let rest_kept : drop at xs ≡ drop at old = ap (drop at) e ∙ subst (λ n. drop n (front ++ drop at old) ≡ drop at old) long (drop-append_seam front (drop at old)) in
    ap (λ z. z ++ (ys ++ drop count (drop at xs))) before
    ∙ ap (λ z. front ++ (ys ++ z)) (ap (drop count) rest_kept ∙ drop-drop count at old)
    ∙ ap (λ z. front ++ (z ++ drop (at + count) old)) same
    ∙ sym (append_assoc front part (drop (at + count) old))

-- the same where all that follows is written again
pub write_rest : (front old part xs ys : List ℕ) (at count : ℕ) → xs ≡ front ++ drop at old → length front ≡ at → count ≡ length xs - at → ys ≡ part ++ drop (length part) (take count (drop at xs))
    → put_mid at count xs ys ≡ (front ++ part) ++ drop (at + length part) old
write_rest front old part xs ys at count e long full same =
    let before : take at xs ≡ front = ap (take at) e ∙ subst (λ n. take n (front ++ drop at old) ≡ front) long (take-append_seam front (drop at old)) in
    let rest_kept : drop at xs ≡ drop at old = ap (drop at) e ∙ subst (λ n. drop n (front ++ drop at old) ≡ drop at old) long (drop-append_seam front (drop at old)) in
    let none : drop count (drop at xs) ≡ [] = drop_of_length-le (drop at xs) (omega (arith, length-drop at xs)) in
    let all : take count (drop at xs) ≡ drop at old = ap (λ n. take n (drop at xs)) full ∙ take_rest xs at ∙ rest_kept in
    ap (λ z. z ++ (ys ++ drop count (drop at xs))) before
    ∙ ap (λ z. front ++ (ys ++ z)) none ∙ ap (λ z. front ++ z) (append-nil ys ∙ same ∙ ap (λ z. part ++ z) (ap (drop (length part)) all ∙ drop-drop (length part) at old))
    ∙ sym (append_assoc front part (drop (at + length part) old))

-- the two handles, the zeros and the magic bytes, written one after the other
module _ (meta index : Handle) (old one two : List ℕ) (used more : ℕ) (room : 48 ≤ length old) (short : used ≤ 20) (narrow : more ≤ 20)
    (used_is : used ≡ length (handle_bytes meta)) (more_is : more ≡ length (handle_bytes index))
    (first : one ≡ handle_bytes meta ++ drop (length (handle_bytes meta)) old)
    (second : two ≡ handle_bytes index ++ drop (length (handle_bytes index)) (take (length one - used) (drop used one))) where
  abbrev pub after_handles : List ℕ
  after_handles = put_mid used (length one - used) one two

  abbrev handles : List ℕ
  handles = handle_bytes meta ++ handle_bytes index

  length-handles : length handles ≡ used + more
  length-handles = length-append (handle_bytes meta) (handle_bytes index) ∙ ap (λ n. n + length (handle_bytes index)) (sym used_is) ∙ ap (λ n. used + n) (sym more_is)

  wrote : after_handles ≡ handles ++ drop (used + more) old
  wrote =
      write_rest (handle_bytes meta) old (handle_bytes index) one two used (length one - used) (first ∙ ap (λ n. handle_bytes meta ++ drop n old) (sym used_is)) (sym used_is) refl second
      ∙ ap (λ n. handles ++ drop (used + n) old) (sym more_is)

  length-after_handles : 40 ≤ length after_handles
  length-after_handles = omega (arith, ap length wrote, length-append handles (drop (used + more) old), length-drop (used + more) old, length-handles)

  pub writes_footer : (three four : List ℕ) → three ≡ replicate (length (take (40 - (used + more)) (drop (used + more) after_handles))) 0 → four ≡ magic
      → put_mid 40 8 (put_mid (used + more) (40 - (used + more)) after_handles three) four ≡ footer_bytes meta index ++ drop 48 old
  unfolding footer_bytes
  writes_footer three four third fourth =
      let count : length (take (40 - (used + more)) (drop (used + more) after_handles)) ≡ 40 - length handles =
      length-take-le (40 - (used + more)) (drop (used + more) after_handles) (omega (arith, length-after_handles, length-drop (used + more) after_handles)) ∙ ap (λ n. 40 - n) (sym length-handles) in
      let filler : three ≡ zeros meta index = third ∙ ap (λ n. replicate n 0) count in
      let forty : used + more + (40 - (used + more)) ≡ 40 = omega arith in
      let filled_is : put_mid (used + more) (40 - (used + more)) after_handles three ≡ filled 40 handles ++ drop 40 old =
      write_part handles old (zeros meta index) after_handles three (used + more) (40 - (used + more)) wrote length-handles filler ∙ ap (λ n. filled 40 handles ++ drop n old) forty in
      let long : length (filled 40 handles) ≡ 40 = omega (arith, length-handles, length-append handles (zeros meta index), length-replicate {A = ℕ} (40 - length handles) 0) in
      write_part (filled 40 handles) old magic (put_mid (used + more) (40 - (used + more)) after_handles three) four 40 8 filled_is long fourth

-- ---- where so many bytes of a file end in a footer

module _ {bytes : List ℕ} {size : ℕ} {meta index : Handle} where
  -- those are as many as a footer has, at least
  pub ends_long : EndsInFooter bytes size meta index → 48 ≤ size
  ends_long ends =
      omega (arith, length-take-le size bytes ends.within, ap length ends.ends, length-append ends.front (footer_bytes meta index), length-footer_bytes meta index ends.meta_fits ends.index_fits)

  -- they do where the last of them are read as one
  pub ends_at : (offset : ℕ) {read : List ℕ} → offset + 48 ≡ size → HandleFits meta → HandleFits index → length read ≡ 48 → read ≡ take 48 (drop offset bytes) → read ≡ footer_bytes meta index → EndsInFooter bytes size meta index
  ends_at offset {read} past meta_fits index_fits long is encoded = record {
    within = omega (arith, past, long, ap length is, length-take 48 (drop offset bytes), length-drop offset bytes);
    front = take offset (take size bytes);
    ends = sym (take-append-drop offset (take size bytes)) ∙ ap (λ z. take offset (take size bytes) ++ z)
        (ap (λ n. drop offset (take n bytes)) (sym past) ∙ drop-take offset 48 bytes ∙ sym is ∙ encoded);
    meta_fits = meta_fits;
    index_fits = index_fits;
  }

  -- and then the last of them are one
  pub ends_with : (offset : ℕ) → offset + 48 ≡ size → EndsInFooter bytes size meta index → take 48 (drop offset bytes) ≡ footer_bytes meta index
  ends_with offset past ends =
      let before : length ends.front ≡ offset =
      omega (arith, past, length-take-le size bytes ends.within, ap length ends.ends, length-append ends.front (footer_bytes meta index), length-footer_bytes meta index ends.meta_fits ends.index_fits) in
      sym (drop-take offset 48 bytes) ∙ ap (λ n. drop offset (take n bytes)) past ∙ ap (drop offset) ends.ends ∙ drop_at ends.front (footer_bytes meta index) offset before
