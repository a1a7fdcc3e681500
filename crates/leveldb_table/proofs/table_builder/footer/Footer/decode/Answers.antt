use Rattle.std.proofs.Common.{◌≡◌, ◌+◌, nat_eq, length, take, drop, replicate, None, Some, refl, sym, ◌∙◌, ap, subst}
use Rattle.std.proofs.lemmas.List.{take_rest}
use Rattle.std.proofs.lemmas.Bool.{not-true, not-false}
use Rattle.std.specs.Cmp.Lexicographic.{pointwise, same_text, other_text}
use Rattle.leveldb_base.specs.BlockHandle.{ReadsHandle}
use Rattle.leveldb_table.specs.Footer.{magic}
use Rattle.leveldb_table.proofs.FooterLemmas.{no_footer_of_length, no_footer_of_end, no_footer_of_meta, no_footer_of_index, no_footer_of_filler, is_footer}
use Rattle.leveldb_table.proofs.table_builder.footer.Footer.decode.Goals as goal

pub returns-then-from-ne-FULL_FOOTER_LENGTH : goal.returns-then-from-ne-FULL_FOOTER_LENGTH
returns-then-from-ne-FULL_FOOTER_LENGTH c = no_footer_of_length c.args.from.now c.if-from-ne-FULL_FOOTER_LENGTH.true

pub returns-then-ne : goal.returns-then-ne
returns-then-ne c =
    no_footer_of_end c.args.from.now (λ e. other_text c.split_at.result.1.now c.as_slice.result.now (sym (not-true (pointwise nat_eq c.split_at.result.1.now c.as_slice.result.now) (sym c.if-ne.ensures))) (c.split_at.ensures.back ∙ e ∙ sym c.as_slice.ensures))

pub returns-in_err-meta_index : goal.returns-in_err-meta_index
returns-in_err-meta_index c =
    rw c.from_residual.ensures
    (no_footer_of_meta c.args.from.now (subst (λ b. ReadsHandle b None) c.split_at.ensures.front c.in_err-meta_index.ensures))

pub returns-in_err-index : goal.returns-in_err-index
returns-in_err-index c =
    let front = c.split_at.ensures.front in
    let first = c.in_ok-meta_index.meta_index in
    let used = c.in_ok-meta_index.first in
    let reads : ReadsHandle (take 40 c.args.from.now) (Some (first, used)) = subst (λ b. ReadsHandle b (Some (first, used))) front c.in_ok-meta_index.ensures in
    rw c.from_residual-in_err-index.ensures
    (no_footer_of_index c.args.from.now first used reads
    (subst (λ b. ReadsHandle b None) (take_rest c.split_at.result.0.now used ∙ ap (drop used) front) c.in_err-index.ensures))

pub returns-then-not-is_filler : goal.returns-then-not-is_filler
returns-then-not-is_filler c =
    let front = c.split_at.ensures.front in
    let first = c.in_ok-meta_index.meta_index in
    let used = c.in_ok-meta_index.first in
    let second = c.in_ok-index.index in
    let more = c.in_ok-index.second in
    let reads : ReadsHandle (take 40 c.args.from.now) (Some (first, used)) = subst (λ b. ReadsHandle b (Some (first, used))) front c.in_ok-meta_index.ensures in
    let reads_more : ReadsHandle (drop used (take 40 c.args.from.now)) (Some (second, more)) =
    subst (λ b. ReadsHandle b (Some (second, more))) (take_rest c.split_at.result.0.now used ∙ ap (drop used) front) c.in_ok-index.ensures in
    let filler = take_rest c.split_at.result.0.now (used + more) ∙ ap (drop (used + more)) front in
    no_footer_of_filler c.args.from.now first used reads second more reads_more
    (λ e. let no = c.if-not-is_filler.ensures.1 (filler ∙ e ∙ ap (λ b. replicate (length b) 0) (sym filler)) in cc)

pub returns : goal.returns
returns c =
    let front = c.split_at.ensures.front in
    let first = c.in_ok-meta_index.meta_index in
    let used = c.in_ok-meta_index.first in
    let second = c.in_ok-index.index in
    let more = c.in_ok-index.second in
    let reads : ReadsHandle (take 40 c.args.from.now) (Some (first, used)) = subst (λ b. ReadsHandle b (Some (first, used))) front c.in_ok-meta_index.ensures in
    let reads_more : ReadsHandle (drop used (take 40 c.args.from.now)) (Some (second, more)) =
    subst (λ b. ReadsHandle b (Some (second, more))) (take_rest c.split_at.result.0.now used ∙ ap (drop used) front) c.in_ok-index.ensures in
    let filler = take_rest c.split_at.result.0.now (used + more) ∙ ap (drop (used + more)) front in
    let zeros = c.if-not-is_filler.ensures.0 refl in
    let ends : drop 40 c.args.from.now ≡ magic = sym c.split_at.ensures.back ∙ same_text c.split_at.result.1.now c.as_slice.result.now (sym (not-false (pointwise nat_eq c.split_at.result.1.now c.as_slice.result.now) (sym c.if-ne.ensures))) ∙ c.as_slice.ensures in
    rw c.new.ensures (
      reads.0,
      reads_more.0,
      is_footer c.args.from.now first used reads second more reads_more c.if-from-ne-FULL_FOOTER_LENGTH.false ends
          (sym filler ∙ zeros ∙ ap (λ b. replicate (length b) 0) filler),
    )
