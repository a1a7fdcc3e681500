use Rattle.std.proofs.Common.{◌+◌, ◌≡◌, arith, map, subst, sym, take}
use Rattle.std.specs.Prelude.{Contains, string_bytes}
use Rattle.std.proofs.lemmas.List.{length-map, take_all}
use Rattle.leveldb_store.proofs.Keeping.RemoveLemmas.{in_first_of, next_item}
use Rattle.leveldb_store.proofs.Keeping.SetAsideCallLemmas.{sets_more, sets_none}
use Rattle.leveldb_store.specs.Keeping.SetAside.{SetsAside, SetsOneAside}
use Rattle.leveldb_store.proofs.open_store.OpenStore.set_aside.Goals as goal

pub loop-path-init : goal.loop-path-init
loop-path-init g c = sets_none g.E.Env c.args.env.now

pub loop-path-preserved : goal.loop-path-preserved
loop-path-preserved g c =
    let paths = map string_bytes c.args.paths.now in
    let i = c.loop-path.path-index in
    let item = c.path-item.result in
    let next = next_item string_bytes c.args.paths.now i item (omega arith) c.path-item.is in
    subst (λ done. SetsAside g.E.Env (Contains done) c.args.env.now c.first_error-first.result c.set_one_aside.new.env) (sym next.0)
    (sets_more g.E.Env c.args.self.now.set.store (take i paths) (string_bytes item)
    (λ modelled at there. c.requires.own modelled at (in_first_of (i + 1) paths at (subst (λ done. Contains done at) (sym next.0) there)))
    c.args.env.now c.loop-path.env c.loop-path.first c.loop-path.invariant c.set_one_aside.result c.set_one_aside.new.env
    (subst (λ path. SetsOneAside g.E.Env path c.loop-path.env c.set_one_aside.result c.set_one_aside.new.env) c.deref.ensures c.set_one_aside.ensures)
    c.first_error-first.result c.first_error-first.ensures)

pub returns : goal.returns
returns g c =
    let paths = map string_bytes c.args.paths.now in
    let all : take c.loop-path.path-index paths ≡ paths = take_all c.loop-path.path-index paths (simp length-map (omega arith)) in
    subst (λ done. SetsAside g.E.Env (Contains done) c.args.env.now c.loop-path.first c.loop-path.env) all c.loop-path.invariant
