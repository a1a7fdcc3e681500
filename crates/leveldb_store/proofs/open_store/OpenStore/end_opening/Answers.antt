-- Which files the store keeps is so for the whole end.
use Rattle.std.proofs.Common.{◌≡◌, ◌∙◌, List, Ok, String, Vec, ℕ, ap, arith, false, map, rules, subst, sym, true}
use Rattle.std.specs.Global.{Global}
use Rattle.std.specs.Prelude.{Contains, is_some, string_bytes}
use Rattle.leveldb_store.proofs.Keeping.DamageLemmas.{found_or_none, found_paths, found_result, looked_for}
use Rattle.leveldb_store.proofs.Keeping.SetAsideLemmas.{still_aside}
use Rattle.leveldb_store.proofs.Openings.EndedLemmas.{damaged_journal}
use Rattle.leveldb_store.proofs.Openings.EndsOpeningLemmas.{ended_broken, ends_broken, ends_well}
use Rattle.leveldb_store.proofs.Writing.RemovalLemmas.{and_is, leaves_obsolete, leaves_then, none_done, tidy_aside}
use Rattle.leveldb_files.specs.Stores.Paths.{IsJournal}
use Rattle.leveldb_store.specs.Keeping.OpenStore.{OpenStoreValue}
use Rattle.leveldb_store.specs.Keeping.SetAside.{SetsAside}
use Rattle.leveldb_store.specs.Writing.Removal.{but_removal}
use Rattle.leveldb_store.proofs.open_store.OpenStore.end_opening.Goals.{in-Err+in-Some-log, in-Err+in_default-log, in_default, in-Err-compacted+in-Some-log-log, in-Err-compacted+in_default-log-2, in_default-compacted, in-Err-moved+in-Some-log-log-2, in-Err-moved+in_default-log-3, in_default-moved}
use Rattle.leveldb_store.proofs.open_store.OpenStore.end_opening.Goals as goal

-- the paths that are returned
abbrev paths_of : Vec (String Global) Global → List (List ℕ)
paths_of paths = map string_bytes paths.items

no_other : true ≡ false → ⊥
no_other never = let wrong : true ≡ false = never in absurd (cc wrong)

pub returns-then-is_broken-clause-ends : goal.returns-then-is_broken-clause-ends
returns-then-is_broken-clause-ends g c =
    let said = c.keep_damaged_files-found.ensures in
    let kept = c.keep_damaged_files-found.new.self in
    let found = c.keep_damaged_files-found.result in
    let same = said.same in
    let order = c.requires.order in
    let new = c.compact_if_asked-compacted.new.self in
    let at = c.compact_if_asked-compacted.new.env in
    let result = but_removal c.compact_if_asked-compacted.result in
    let done = rw same at (rw (c.last_sequence-smallest.ensures) at c.compact_if_asked-compacted.ensures) in
    rw (ap but_removal c.and.ensures ∙ and_is c.compact_if_asked-compacted.result (Ok tt))
    (ended_broken _ g.E.Env _ _ c.args.self.now c.args.env.now c.args.tables.now new at c.compact_if_asked-compacted.new.tables result
    (ends_broken _ g.E.Env _ _ c.args.self.now c.args.env.now c.args.tables.now c.requires.usable kept.kept_to c.keep_damaged_files-found.new.env said.keeps (found_result found) (found_paths paths_of found)
    (looked_for g.E.Env _ _ _ paths_of _ found said.ok said.err)
    result new at c.compact_if_asked-compacted.new.tables
    done.compacts done.asked.err done.keeps.breaks done.keeps.kept done.keeps.keeps
    (still_aside _ g.E.Env.models_disk _ _ new _ done.keeps.once)
    (λ usable. no_other (sym c.if-is_broken.true ∙ c.is_broken.ensures.1 usable)))
    (λ usable. no_other (sym c.if-is_broken.true ∙ c.is_broken.ensures.1 usable)))

pub returns-clause-ends : goal.returns-clause-ends
returns-clause-ends g c =
    let said = c.keep_damaged_files-found.ensures in
    let kept = c.keep_damaged_files-found.new.self in
    let found = c.keep_damaged_files-found.result in
    let same = said.same in
    let order = c.requires.order in
    let result = but_removal c.compact_if_asked-compacted.result in
    let done = rw same at (rw (c.last_sequence-smallest.ensures) at c.compact_if_asked-compacted.ensures) in
    let new = c.compact_if_asked-compacted.new.self in
    let ordered = ap (λ (v : OpenStoreValue g.row.C.Denot). g.C.Cmp.cmp v.cmp) done.compacts.memory ∙ sym order in
    let damaged = c.unwrap_or-damaged.result in
    let paths : map string_bytes c.deref.result.now ≡ found_paths paths_of found =
    ap (map string_bytes) c.deref.ensures.value ∙ ap paths_of c.unwrap_or-damaged.ensures
    ∙ found_or_none paths_of c.new.result (ap (map string_bytes) c.new.ensures.items) found in
    ends_well _ g.E.Env _ _ c.args.self.now c.args.env.now c.args.tables.now c.requires.usable kept.kept_to c.keep_damaged_files-found.new.env said.keeps (found_result found) (found_paths paths_of found)
    (looked_for g.E.Env _ _ _ paths_of _ found said.ok said.err)
    result new c.compact_if_asked-compacted.new.env c.compact_if_asked-compacted.new.tables
    done.compacts done.asked.by_score done.asked.err done.keeps.breaks done.keeps.keeps (still_aside _ g.E.Env.models_disk _ _ new _ done.keeps.once) (c.is_broken.ensures.0 c.if-is_broken.false)
    c.tidy_up-removal.new.env c.tidy_up-removal.new.tables c.tidy_up-removal.result c.tidy_up-removal.ensures.removes (rw ordered at c.tidy_up-removal.ensures.tidies) c.tidy_up-removal.ensures.closes c.tidy_up-removal.ensures.time
    c.set_aside-moved.new.env c.set_aside-moved.result
    (subst (λ ps. SetsAside g.E.Env (Contains ps) c.tidy_up-removal.new.env c.set_aside-moved.result c.set_aside-moved.new.env) paths c.set_aside-moved.ensures)

-- ---- what is left of obsolete files

pub returns-then-is_broken-clause-removes : goal.returns-then-is_broken-clause-removes
returns-then-is_broken-clause-removes g c =
    rw (c.and.ensures)
    (none_done _ _ c.compact_if_asked-compacted.result (Ok tt) c.compact_if_asked-compacted.ensures.compacts.keeps.usable
    (λ usable. no_other (sym c.if-is_broken.true ∙ c.is_broken.ensures.1 usable)))

pub returns-clause-removes : goal.returns-clause-removes
returns-clause-removes g c =
    let said = c.keep_damaged_files-found.ensures in
    let found = c.keep_damaged_files-found.result in
    let old = c.args.self.now in
    let looks = looked_for g.E.Env old.set c.args.env.now _ paths_of _ found said.ok said.err in
    let paths : map string_bytes c.deref.result.now ≡ found_paths paths_of found =
    ap (map string_bytes) c.deref.ensures.value ∙ ap paths_of c.unwrap_or-damaged.ensures
    ∙ found_or_none paths_of c.new.result (ap (map string_bytes) c.new.ensures.items) found in
    let compacts = c.compact_if_asked-compacted.ensures.compacts in
    let store = compacts.keeps.rest.store ∙ ap (λ (v : OpenStoreValue g.row.C.Denot). v.set.store) said.same in
    let moves = c.set_aside-moved.ensures in
    leaves_then g.E.Env c.compact_if_asked-compacted.new.self c.compact_if_asked-compacted.new.self c.tidy_up-removal.result moves.cause.later
    (λ modelled. tidy_aside c.compact_if_asked-compacted.new.self _
    (λ path there. subst (λ s. IsJournal s path) (sym store)
    (damaged_journal old.set (g.E.Env.observed c.args.env.now).disk.files path (looks.found modelled path (subst (λ ps. Contains ps path) paths there))))
    _ _ (moves.run modelled).has)
    (leaves_obsolete g.E.Env c.tidy_up-removal.result (c.is_broken.ensures.0 c.if-is_broken.false).manifest
    (record {
      at = c.compact_if_asked-compacted.new.env;
      later = omega (arith, looks.cause.later, compacts.keeps.cause.later);
      removes = c.tidy_up-removal.ensures.removes;
    }))

pub set_aside-moved-requires : goal.set_aside-moved-requires
set_aside-moved-requires g c =
    let said = c.keep_damaged_files-found.ensures in
    let found = c.keep_damaged_files-found.result in
    let old = c.args.self.now in
    let looks = looked_for g.E.Env old.set c.args.env.now _ paths_of _ found said.ok said.err in
    let paths : map string_bytes c.deref.result.now ≡ found_paths paths_of found =
    ap (map string_bytes) c.deref.ensures.value ∙ ap paths_of c.unwrap_or-damaged.ensures
    ∙ found_or_none paths_of c.new.result (ap (map string_bytes) c.new.ensures.items) found in
    let store = c.compact_if_asked-compacted.ensures.compacts.keeps.rest.store ∙ ap (λ (v : OpenStoreValue g.row.C.Denot). v.set.store) said.same in
    record {
      own = λ modelled path there. subst (λ s. IsJournal s path) (sym store)
          (damaged_journal old.set (g.E.Env.observed c.args.env.now).disk.files path (looks.found modelled path (subst (λ ps. Contains ps path) paths there)));
    }

pub returns-clause-log : goal.returns-clause-log
returns-clause-log g c =
    let first : is_some c.match-found.log ≡ is_some c.keep_damaged_files-found.new.log =
    elim c.match-found.branch as (λ w. is_some c.match-found.log ≡ is_some c.keep_damaged_files-found.new.log) [
      | in-Err+in-Some-log w ↦ search rules
      | in-Err+in_default-log w ↦ search rules
      | in_default w ↦ search rules
    ] in
    let second : is_some c.match-compacted.log ≡ is_some c.compact_if_asked-compacted.new.log =
    elim c.match-compacted.branch as (λ w. is_some c.match-compacted.log ≡ is_some c.compact_if_asked-compacted.new.log) [
      | in-Err-compacted+in-Some-log-log w ↦ search rules
      | in-Err-compacted+in_default-log-2 w ↦ search rules
      | in_default-compacted w ↦ search rules
    ] in
    let third : is_some c.match-moved.log ≡ is_some c.tidy_up-removal.new.log =
    elim c.match-moved.branch as (λ w. is_some c.match-moved.log ≡ is_some c.tidy_up-removal.new.log) [
      | in-Err-moved+in-Some-log-log-2 w ↦ search rules
      | in-Err-moved+in_default-log-3 w ↦ search rules
      | in_default-moved w ↦ search rules
    ] in
    third ∙ c.tidy_up-removal.ensures.log ∙ second ∙ c.compact_if_asked-compacted.ensures.log ∙ first ∙ c.keep_damaged_files-found.ensures.log
