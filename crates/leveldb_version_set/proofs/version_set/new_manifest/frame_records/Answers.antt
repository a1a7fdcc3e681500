use Rattle.std.proofs.Common.{◌≡◌, ◌∙◌, ◌∷◌, ◌++◌, ◌+◌, List, Vec, ℕ, ap, drop, fold, map, sym}
use Rattle.std.specs.Global.{Global}
use Rattle.std.proofs.lemmas.List.{append-nil, drop_all, drop_more}
use Rattle.std.proofs.lemmas.Result.{IfOk-from_err}
use Rattle.leveldb_mem.specs.Log.{framed, log_block_size}
use Rattle.leveldb_mem.specs.Log.Writer.{WriterState, after_frame}
use Rattle.leveldb_version_set.proofs.Sets.NewManifestLemmas.{framed_more}
use Rattle.leveldb_version_set.proofs.version_set.new_manifest.frame_records.Goals as goal

pub loop-record-preserved : goal.loop-record-preserved
loop-record-preserved c =
    let items : Vec ℕ Global → List ℕ = λ it. it.items in
    let others : List (List ℕ) = map items (drop (c.loop-record.record-index + 1) c.args.records.now) in
    let text : List ℕ = c.record-item.result.items in
    let left : map items (drop c.loop-record.record-index c.args.records.now) ≡ text ∷ others =
    ap (map items) (drop_more c.args.records.now c.loop-record.record-index c.record-item.result c.loop-record-test.true
    ∙ ap (λ z. z ∷ drop (c.loop-record.record-index + 1) c.args.records.now) (sym c.record-item.is)) in
    let adds = rw c.deref.ensures.value at c.in_ok-add_record.ensures.ok in
    record {
      bytes = framed_more items _ text others c.loop-record.invariant.size adds
          (c.loop-record.invariant.bytes ∙ ap (λ z. c.loop-record.bytes.items ++ framed log_block_size z c.loop-record.writer.offset) left);
      writer = c.loop-record.invariant.writer ∙ ap (fold after_frame c.loop-record.writer) left ∙ ap (λ w. fold after_frame w others) (sym adds.writer);
      size = ap (λ (w : WriterState). w.size) adds.writer ∙ c.loop-record.invariant.size;
      usable = ap (λ (w : WriterState). w.broken) adds.writer ∙ c.loop-record.invariant.usable;
    }

pub returns-in_err-add_record-clause-bytes : goal.returns-in_err-add_record-clause-bytes
returns-in_err-add_record-clause-bytes c = IfOk-from_err c.from_residual.result _ c.from_residual.ensures.0

pub returns-in_err-add_record-clause-writer : goal.returns-in_err-add_record-clause-writer
returns-in_err-add_record-clause-writer c = IfOk-from_err c.from_residual.result _ c.from_residual.ensures.0

pub returns : goal.returns
returns c =
    let items : Vec ℕ Global → List ℕ = λ it. it.items in
    let none = drop_all c.loop-record.record-index c.args.records.now c.loop-record-test.false in
    record {
      bytes = sym (c.loop-record.invariant.bytes ∙ ap (λ z. c.loop-record.bytes.items ++ framed log_block_size (map items z) c.loop-record.writer.offset) none ∙ append-nil c.loop-record.bytes.items);
      writer = sym (c.loop-record.invariant.writer ∙ ap (λ z. fold after_frame c.loop-record.writer (map items z)) none);
      memory = tt;
    }
