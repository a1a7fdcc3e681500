use Rattle.std.proofs.Common.{◌≡◌, ◌∙◌, ◌<◌, ◌+◌, ◌-◌, ◌^◌, ap, length, nat_lt, subst, sym}
use Rattle.std.proofs.lemmas.Bool.{le-ltb, lt-ltb}
use Rattle.std.specs.Prelude.{if◌then◌else◌, min}
use Rattle.leveldb_version_set.specs.Compactions.Cut.{CutValue}
use Rattle.leveldb_version_set.proofs.Compactions.CutLemmas.{passes_files}
use Rattle.leveldb_version_set.proofs.compaction.cut.OutputCut.passes.Goals.{then-stops, else-stops}
use Rattle.leveldb_version_set.proofs.compaction.cut.OutputCut.passes.Goals as goal

pub returns : goal.returns
returns g c =
    let cmp = g.C.Cmp.cmp c.args.ucmp.now in
    let files = c.args.files.now in
    let size = c.size_with-size.result in
    let inside_fits : c.self.inside.passed < 2 ^ 64 = search in
    let passed_fits : c.args.self.now.passed < 2 ^ 64 = subst (λ (v : CutValue). v.passed < 2 ^ 64) c.self.view_is inside_fits in
    let files_fit : length files < 2 ^ 64 = search in
    let kept : c.if-stops.self ≡ (if nat_lt c.product.result size then 0 else size) =
    elim c.if-stops.branch [
      | then-stops w ↦ w.self-is ∙ sym (ap (λ b. if b then 0 else size) (lt-ltb c.product.result size w.if-stops.true))
      | else-stops w ↦ w.self-is ∙ sym (ap (λ b. if b then 0 else size) (le-ltb c.product.result size w.if-stops.false))
    ] in
    passes_files cmp files c.args.key.now c.args.self.now c.args.max_file_size c.min.result c.product.result size c.saturating_add-self-inside.result c.if-stops.self
    c.files_before-passed.result.now c.product.ensures (c.min.ensures ∙ ap (λ (v : CutValue). min v.passed (length files)) c.self.view_is)
    c.files_before-passed.ensures c.size_with-size.ensures
    (c.saturating_add-self-inside.ensures ∙ ap (λ (v : CutValue). min (v.passed + length c.files_before-passed.result.now) (2 ^ 64 - 1)) c.self.view_is)
    passed_fits files_fit kept
