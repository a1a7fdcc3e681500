use Rattle.std.proofs.Common.{◌∙◌, ap, sym}
use Rattle.lru.specs.LruCache.{lru_cache}
use Rattle.leveldb_table.proofs.CacheLemmas.{cached_of, after_put, put_is, put_none, room_kept, kept_put}
use Rattle.leveldb_table.proofs.cache.Cache.insert.Goals as goal

pub returns-clause-ok : goal.returns-clause-ok
returns-clause-ok g c =
    let map = c.self.inside.recent in
    let keeps = c.self.inside.keeps in
    let given = c.self.inside.id in
    let key = c.args.key.now in
    let kept = room_kept keeps map.cap (λ none. c.if-cap-eq0.false (c.cap.ensures ∙ sym (ap (λ cache. cache.capacity) c.self.view_is) ∙ none)) in
    ap (λ after. cached_of after keeps given) (c.in_ok-put.ensures.entries ∙ ap (λ pairs. lru_cache pairs map.cap) (put_is key map c.args.elem kept.1))
    ∙ kept_put key map keeps given c.args.elem kept.0 ∙ ap (after_put key c.args.elem) c.self.view_is

pub returns-then-cap-eq0-clause-ok : goal.returns-then-cap-eq0-clause-ok
returns-then-cap-eq0-clause-ok g c =
    let now = c.args.self.now in
    ap (λ pairs. record now { pairs = pairs }) (put_none c.args.key.now now.capacity now.pairs c.args.elem (sym c.cap.ensures ∙ c.if-cap-eq0.true))
