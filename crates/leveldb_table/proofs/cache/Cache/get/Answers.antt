use Rattle.std.proofs.Common.{refl, ◌∙◌, ap}
use Rattle.lru.specs.LruCache.{lru_cache}
use Rattle.leveldb_table.specs.Cache.{value_of}
use Rattle.leveldb_table.proofs.CacheLemmas.{cached_of, after_look_up, promoted_is, kept_look_up, kept_value, unused_look_up, unused_value}
use Rattle.leveldb_table.proofs.cache.Cache.get.Goals as goal

pub returns : goal.returns
returns g c =
    let map = c.self.inside.recent in
    let keeps = c.self.inside.keeps in
    let given = c.self.inside.id in
    let key = c.args.key.now in (
      (
        refl,
        λ _. tt,
        ap (λ after. cached_of after keeps given) (c.get.follows.holds-at-none ∙ ap (λ pairs. lru_cache pairs map.cap) (promoted_is key map.entries))
            ∙ kept_look_up key map keeps given c.if-not-self.false ∙ ap (after_look_up key) c.self.view_is,
      ),
      record { used = tt; value = c.get.ensures.value ∙ kept_value key map keeps given c.if-not-self.false ∙ ap (λ cache. value_of key cache.pairs) c.self.view_is },
    )

pub returns-then-not-self : goal.returns-then-not-self
returns-then-not-self g c =
    let map = c.self.inside.recent in
    let keeps = c.self.inside.keeps in
    let given = c.self.inside.id in
    let key = c.args.key.now in (
      (refl, λ _. tt, unused_look_up key map keeps given c.if-not-self.true ∙ ap (after_look_up key) c.self.view_is),
      record { used = tt; value = unused_value key map keeps given c.if-not-self.true ∙ ap (λ cache. value_of key cache.pairs) c.self.view_is },
    )
