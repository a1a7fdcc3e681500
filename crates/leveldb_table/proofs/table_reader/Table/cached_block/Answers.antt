use Rattle.std.proofs.Common.{sym, ◌∙◌, ap, arith}
use Rattle.std.specs.Prelude.{option_copied}
use Rattle.std.proofs.lemmas.Result.{IfOk-from_err}
use Rattle.leveldb_table.specs.Cache.{value_of}
use Rattle.leveldb_table.specs.BlockCache.{cache_key}
use Rattle.leveldb_table.proofs.CacheLemmas.{after_look_up}
use Rattle.leveldb_table.proofs.RefusalLemmas.{IfErr-refused}
use Rattle.leveldb_table.proofs.table_reader.Table.cached_block.Goals as goal

pub returns-clause-cache : goal.returns-clause-cache
returns-clause-cache g c =
    c.get.follows.holds-at-none ∙ ap (λ key. after_look_up key c.args.cache.now) (c.cache_key.ensures ∙ ap (cache_key c.self.inside.id) c.offset.ensures)
    ∙ ap (λ table. after_look_up (cache_key table.id c.args.handle.offset) c.args.cache.now) c.self.view_is

pub returns-clause-ok : goal.returns-clause-ok
returns-clause-ok g c =
    let key_is = c.cache_key.ensures ∙ ap (cache_key c.self.inside.id) c.offset.ensures in
    rw (← c.self.view_is) (record {
      held = c.in-Some.held.now;
      found = ap (λ key. value_of key c.args.cache.now.pairs) (sym key_is) ∙ sym c.get.ensures.value ∙ ap option_copied c.in-Some.is;
      fits = omega (arith, c.offset.ensures);
      size = sym c.size.ensures ∙ c.if-size.false ∙ c.size-2.ensures;
      contents = ap (λ block. block.contents) c.in_ok-clone.ensures.cases.0;
      ordered = ap (λ block. block.cmp) c.in_ok-clone.ensures.cases.0;
    })

pub returns-in_default-clause-cache : goal.returns-in_default-clause-cache
returns-in_default-clause-cache g c =
    c.get.follows.holds-at-none ∙ ap (λ key. after_look_up key c.args.cache.now) (c.cache_key.ensures ∙ ap (cache_key c.self.inside.id) c.offset.ensures)
    ∙ ap (λ table. after_look_up (cache_key table.id c.args.handle.offset) c.args.cache.now) c.self.view_is

pub returns-then-size-clause-cache : goal.returns-then-size-clause-cache
returns-then-size-clause-cache g c =
    c.get.follows.holds-at-none ∙ ap (λ key. after_look_up key c.args.cache.now) (c.cache_key.ensures ∙ ap (cache_key c.self.inside.id) c.offset.ensures)
    ∙ ap (λ table. after_look_up (cache_key table.id c.args.handle.offset) c.args.cache.now) c.self.view_is

pub returns-in_err-clone-clause-cache : goal.returns-in_err-clone-clause-cache
returns-in_err-clone-clause-cache g c =
    c.get.follows.holds-at-none ∙ ap (λ key. after_look_up key c.args.cache.now) (c.cache_key.ensures ∙ ap (cache_key c.self.inside.id) c.offset.ensures)
    ∙ ap (λ table. after_look_up (cache_key table.id c.args.handle.offset) c.args.cache.now) c.self.view_is

pub returns-in_err-clone-clause-ok : goal.returns-in_err-clone-clause-ok
returns-in_err-clone-clause-ok g c = IfOk-from_err _ _ c.from_residual.ensures.0

pub returns-in_err-clone-clause-memory : goal.returns-in_err-clone-clause-memory
returns-in_err-clone-clause-memory g c = IfErr-refused _ _ c.from_residual.result (λ status memory. memory) c.from_residual.ensures.1
