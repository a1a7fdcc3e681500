use Rattle.std.proofs.Common.{◌≤◌, ◌+◌, length, take, arith, ap, ◌∙◌}
use Rattle.std.proofs.lemmas.Bool.{leb-true, leb-false}
use Rattle.std.proofs.lemmas.List.{with_items_is}
use Rattle.std.proofs.lemmas.Result.{err_from_is_err_and}
use Rattle.leveldb_env.specs.Source.{GivesSome, GivesAll}
use Rattle.leveldb_mem.proofs.ReaderLemmas.{came, length-came, wants_memory}
use Rattle.leveldb_mem.proofs.log.reader.ReaderCore.fill.Goals as goal

pub returns-in_err-make_long-clause-err : goal.returns-in_err-make_long-clause-err
returns-in_err-make_long-clause-err g c =
    let p = err_from_is_err_and c.from_residual.result c.from_residual.ensures.1 in
    rw (p.1, p.2) (wants_memory g.S.Source.gives c.args.source.now _ c.in_err-make_long.ensures.cause)

pub returns-clause-there : goal.returns-clause-there
returns-clause-there g c = λ there.
    let core = c.self.inside in
    let block = c.draw.new.target in
    let count = c.in_ok-self-inside.field-0 in
    let enough = leb-true (core.used + c.args.count) count there in
    let read : core.used ≤ core.filled = omega arith in
    let more : core.filled ≤ count = omega (arith, c.in_ok-self-inside.ensures.ok.0) in
    let inside : count ≤ length block = omega (arith, c.in_ok-self-inside.ensures.ok.1) in
    let front = ap (take core.filled) c.deref_mut.ensures.value ∙ c.make_long.ensures.kept core.filled (omega arith) in
    let stored = with_items_is c.make_long.new.bytes block (omega (arith, c.draw.auto.target, c.deref_mut.ensures.len)) in
    let bytes = length-came core.block.items c.deref_mut.result.now block _ core.used core.filled count read more inside front c.in_ok-self-inside.ensures.kept stored in (
      came core.block.items c.deref_mut.result.now block _ core.used core.filled count read more inside front c.in_ok-self-inside.ensures.kept stored
          (GivesSome g.S.Source.gives) c.args.source.now c.draw.new.source c.args.self.now.unread (ap (λ r. r.unread) c.self.view_is) (c.in_ok-self-inside.ensures.enough enough),
      omega arith,
    )

pub returns-clause-short : goal.returns-clause-short
returns-clause-short g c = λ short.
    let core = c.self.inside in
    let block = c.draw.new.target in
    let count = c.in_ok-self-inside.field-0 in
    let few = leb-false (core.used + c.args.count) count short in
    let read : core.used ≤ core.filled = omega arith in
    let more : core.filled ≤ count = omega (arith, c.in_ok-self-inside.ensures.ok.0) in
    let inside : count ≤ length block = omega (arith, c.in_ok-self-inside.ensures.ok.1) in
    let front = ap (take core.filled) c.deref_mut.ensures.value ∙ c.make_long.ensures.kept core.filled (omega arith) in
    let stored = with_items_is c.make_long.new.bytes block (omega (arith, c.draw.auto.target, c.deref_mut.ensures.len)) in
    let bytes = length-came core.block.items c.deref_mut.result.now block _ core.used core.filled count read more inside front c.in_ok-self-inside.ensures.kept stored in (
      came core.block.items c.deref_mut.result.now block _ core.used core.filled count read more inside front c.in_ok-self-inside.ensures.kept stored
          (GivesAll g.S.Source.gives) c.args.source.now c.draw.new.source c.args.self.now.unread (ap (λ r. r.unread) c.self.view_is) (c.in_ok-self-inside.ensures.short few),
      omega arith,
    )
