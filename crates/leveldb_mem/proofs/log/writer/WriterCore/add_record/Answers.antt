use Rattle.std.proofs.Common.{◌≢◌, [], ◌++◌, ◌+◌, ◌%◌, ◌<◌, ap, ◌∙◌, sym, length, subst, rules}
use Rattle.std.proofs.lemmas.List.{nil_from_length}
use Rattle.std.proofs.lemmas.Bool.{eqb-true}
use Rattle.leveldb_mem.specs.Log.{framed_record}
use Rattle.leveldb_mem.specs.Log.Writer.{WriterState, AddsRecord}
use Rattle.leveldb_mem.proofs.WriterLemmas.{adds_nothing, adds}
use Rattle.leveldb_mem.specs.contracts.log.writer.WriterCore.{the_view}
use Rattle.leveldb_mem.proofs.log.writer.WriterCore.add_record.Goals as goal

pub returns-then-is_empty : goal.returns-then-is_empty
returns-then-is_empty g c = record {
  ok = adds_nothing g.S.Sink.puts c.args.self.now c.args.sink.now c.args.text.now (subst (λ (w : WriterState). w.offset < w.size) c.self.view_is c.self.invariant.1) (nil_from_length c.args.text.now (eqb-true (length c.args.text.now) 0 (sym c.if-is_empty.ensures)));
  err = λ usable. tt;
  broken = λ broken. (let usable = c.in_ok-check_unbroken.ensures.ok in absurd (cc));
}

pub returns-in-Ok : goal.returns-in-Ok
returns-in-Ok g c =
    let some : c.args.text.now ≢ [] = search rules in
    record {
      ok = subst (λ (w : WriterState). AddsRecord g.S.Sink.puts w c.args.sink.now c.args.text.now c.len-count.result (the_view record { block_size = c.self.inside.block_size; offset = (c.self.inside.offset + c.len-count.result) % c.self.inside.block_size; broken = c.self.inside.broken; frame = c.put_framing.new.dst }) c.put_all.new.self) c.self.view_is
          (adds g.S.Sink.puts (the_view c.self.inside) c.args.sink.now c.args.text.now c.self.invariant.1 c.deref.result.now c.len-count.result c.put_all.new.self some
          (c.deref.ensures.value ∙ c.in_ok-put_framing.ensures.ok ∙ ap (λ z. z ++ framed_record c.self.inside.block_size c.args.text.now c.self.inside.offset) c.clear.ensures.items) (c.len-count.ensures ∙ sym c.deref.ensures.len) c.in-Ok.ensures);
      err = λ usable. tt;
      broken = λ broken. (let usable = c.in_ok-check_unbroken.ensures.ok in absurd (cc));
    }
