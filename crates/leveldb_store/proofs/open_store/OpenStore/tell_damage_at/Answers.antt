use Rattle.std.proofs.Common.{◌≡◌, ◌∙◌, ◌⊎◌, inl, inr, ⊎_elim, ap, arith, false, refl, rules, subst, sym, true}
use Rattle.std.specs.Option.{option_map}
use Rattle.std.specs.Prelude.{IsSomeAnd, IsTrue, string_bytes}
use Rattle.std.proofs.lemmas.Result.{err_from_is_err_and}
use Rattle.leveldb_env.proofs.EnvLemmas.{Run-call}
use Rattle.leveldb_env.specs.Env.{File, Files, bytes_of, in_folder}
use Rattle.leveldb_env.specs.WholeFiles.{IsMissingFile}
use Rattle.leveldb_table.proofs.TableBlockLemmas.{KeepsDisk-refl, KeepsDisk-trans, same_files}
use Rattle.leveldb_store.proofs.Keeping.DamageLemmas.{damaged_by, looks_at_name, looks_at_sound, looks_in_vain, lost_by, not_aside}
use Rattle.leveldb_store.proofs.Keeping.SoundLemmas.{failed_later, failed_once}
use Rattle.leveldb_store.proofs.Logs.WholeLogLemmas.{clean_undamaged}
use Rattle.leveldb_store.proofs.open_store.OpenStore.tell_damage_at.Goals as goal

pub returns-in_default-clause-looks : goal.returns-in_default-clause-looks
returns-in_default-clause-looks g c =
    looks_at_sound g.E.Env c.args.self.now.set c.args.env.now string_bytes c.args.name.now c.args.env.now (omega arith)
    (λ modelled it. c.in_default.ensures it.number it.kind it.named)

pub returns-then-not-is_left_aside-clause-looks : goal.returns-then-not-is_left_aside-clause-looks
returns-then-not-is_left_aside-clause-looks g c =
    looks_at_sound g.E.Env c.args.self.now.set c.args.env.now string_bytes c.args.name.now c.args.env.now (omega arith)
    (λ modelled. not_aside c.args.self.now.set (g.E.Env.observed c.args.env.now).disk.files
    c.args.name.now c.in-Some.number c.in-Some.kind c.in-Some.ensures
    (λ aside. let never : false ≡ true = c.if-not-is_left_aside.ensures.1 aside in cc))

pub returns-in_err-path-clause-looks : goal.returns-in_err-path-clause-looks
returns-in_err-path-clause-looks g c =
    let p = err_from_is_err_and c.from_residual.result c.from_residual.ensures.1 in
    rw p.1 (looks_in_vain g.E.Env c.args.self.now.set c.args.env.now (option_map string_bytes) c.args.name.now p.0 c.args.env.now (omega arith)
    (inl (inl p.2)))

pub returns-then-ends_cleanly-clause-looks : goal.returns-then-ends_cleanly-clause-looks
returns-then-ends_cleanly-clause-looks g c =
    looks_at_sound g.E.Env c.args.self.now.set c.args.env.now string_bytes c.args.name.now c.ends_cleanly.new.env c.if-ends_cleanly.ensures.later
    (λ modelled it.
    let named : c.deref.result.now ≡ in_folder c.args.self.now.set.store c.args.name.now = search rules in
    clean_undamaged c.args.self.now.set (g.E.Env.observed c.args.env.now).disk.files
    c.args.name.now c.deref.result.now named (c.if-ends_cleanly.ensures.clean refl modelled) it)

pub returns-in_err-text-clause-looks : goal.returns-in_err-text-clause-looks
returns-in_err-text-clause-looks g c =
    let p = err_from_is_err_and c.from_residual-in_err-text.result c.from_residual-in_err-text.ensures.1 in
    let set = c.args.self.now.set in
    let path = in_folder set.store c.args.name.now in
    let named : c.deref-2.result.now ≡ path = search rules in
    let mid = c.ends_cleanly.new.env in
    let to = c.read_file.new.env in
    let first = c.if-ends_cleanly.ensures.later in
    let cause = c.in_err-text.ensures.cause in
    rw (p.1, p.2) (looks_in_vain g.E.Env set c.args.env.now (option_map string_bytes) c.args.name.now _ to (let second = cause.later in omega (arith, first, second))
    (⊎_elim (λ lost. inl (⊎_elim (λ memory. inl memory)
    (λ missing. inr (
      subst (λ at. IsMissingFile at c.in_err-text.field-0.0) named missing.0,
      λ modelled. sym (ap (λ (f : Files). f path) (same_files g.E.Env c.if-ends_cleanly.ensures.keeps modelled))
          ∙ ap (g.E.Env.observed mid).disk.files (sym named) ∙ missing.1 modelled,
    )) lost))
    (λ counted. inr (failed_later (g.E.Env.failures c.args.env.now) (g.E.Env.failures mid) (g.E.Env.failures to) first cause.later
    (failed_once (g.E.Env.failures mid) (g.E.Env.failures to) counted))) cause.cause))

pub returns-in_default-left_out-clause-looks : goal.returns-in_default-left_out-clause-looks
returns-in_default-left_out-clause-looks g c =
    let set = c.args.self.now.set in
    let from = (g.E.Env.observed c.args.env.now).disk.files in
    let mid = (g.E.Env.observed c.ends_cleanly.new.env).disk.files in
    let path = in_folder set.store c.args.name.now in
    let text = c.deref-3.result.now in
    let named : c.deref-2.result.now ≡ path = search rules in
    let first = c.if-ends_cleanly.ensures.later in
    let second = c.read_file.ensures.cause.later in
    looks_at_sound g.E.Env set c.args.env.now string_bytes c.args.name.now c.read_file.new.env (omega (arith, first, second))
    (λ modelled it. c.in_default-left_out.ensures.loses (lost_by set from c.args.name.now text
    (subst (λ (f : Files). IsSomeAnd (f path) (λ (file : File). text ≡ bytes_of file)) (same_files g.E.Env c.if-ends_cleanly.ensures.keeps modelled)
    (subst (λ p. IsSomeAnd (mid p) (λ (file : File). text ≡ bytes_of file)) named
    (subst (λ bytes. IsSomeAnd (mid c.deref-2.result.now) (λ (file : File). bytes ≡ bytes_of file)) (sym c.deref-3.ensures.value)
    (c.in_ok-text.ensures.bytes modelled)))) it))

pub returns-clause-looks : goal.returns-clause-looks
returns-clause-looks g c =
    let set = c.args.self.now.set in
    let from = (g.E.Env.observed c.args.env.now).disk.files in
    let mid = (g.E.Env.observed c.ends_cleanly.new.env).disk.files in
    let name = c.args.name.now in
    let path = in_folder set.store name in
    let text = c.deref-3.result.now in
    let named : c.deref-2.result.now ≡ path = search rules in
    let there : IsTrue g.E.Env.models_disk → IsSomeAnd (from path) (λ (file : File). text ≡ bytes_of file) = λ modelled.
    subst (λ (f : Files). IsSomeAnd (f path) (λ (file : File). text ≡ bytes_of file)) (same_files g.E.Env c.if-ends_cleanly.ensures.keeps modelled)
    (subst (λ p. IsSomeAnd (mid p) (λ (file : File). text ≡ bytes_of file)) named
    (subst (λ bytes. IsSomeAnd (mid c.deref-2.result.now) (λ (file : File). bytes ≡ bytes_of file)) (sym c.deref-3.ensures.value)
    (c.in_ok-text.ensures.bytes modelled))) in
    let first = c.if-ends_cleanly.ensures.later in
    let second = c.read_file.ensures.cause.later in
    rw c.then_some.ensures (looks_at_name g.E.Env set c.args.env.now string_bytes name c.in_ok-path.path (search rules) c.in-Some-left_out.left.has_records c.read_file.new.env
    (omega (arith, first, second))
    (λ modelled has. damaged_by set from name text c.in-Some.number c.in-Some.kind c.in-Some.ensures
    (c.if-not-is_left_aside.ensures.0 refl) (there modelled) (c.in-Some-left_out.ensures.lost has))
    (λ modelled it. c.in-Some-left_out.ensures.loses (lost_by set from name text (there modelled) it)))

-- ---- the rest

pub returns-in_default-clause-keeps : goal.returns-in_default-clause-keeps
returns-in_default-clause-keeps g c = KeepsDisk-refl g.E.Env c.args.env.now

pub returns-in_default-clause-log : goal.returns-in_default-clause-log
returns-in_default-clause-log g c = refl

pub returns-then-not-is_left_aside-clause-keeps : goal.returns-then-not-is_left_aside-clause-keeps
returns-then-not-is_left_aside-clause-keeps g c = KeepsDisk-refl g.E.Env c.args.env.now

pub returns-then-not-is_left_aside-clause-log : goal.returns-then-not-is_left_aside-clause-log
returns-then-not-is_left_aside-clause-log g c = refl

pub returns-in_err-path-clause-keeps : goal.returns-in_err-path-clause-keeps
returns-in_err-path-clause-keeps g c = KeepsDisk-refl g.E.Env c.args.env.now

pub returns-in_err-path-clause-log : goal.returns-in_err-path-clause-log
returns-in_err-path-clause-log g c = refl

pub returns-then-ends_cleanly-clause-keeps : goal.returns-then-ends_cleanly-clause-keeps
returns-then-ends_cleanly-clause-keeps g c = c.if-ends_cleanly.ensures.keeps

pub returns-then-ends_cleanly-clause-log : goal.returns-then-ends_cleanly-clause-log
returns-then-ends_cleanly-clause-log g c = refl

pub returns-in_err-text-clause-keeps : goal.returns-in_err-text-clause-keeps
returns-in_err-text-clause-keeps g c = KeepsDisk-trans g.E.Env c.if-ends_cleanly.ensures.keeps (record { disk = λ modelled. Run-call modelled (c.read_file.ensures.does modelled); locks = c.read_file.ensures.locks })

pub returns-in_err-text-clause-log : goal.returns-in_err-text-clause-log
returns-in_err-text-clause-log g c = refl

pub returns-in_default-left_out-clause-keeps : goal.returns-in_default-left_out-clause-keeps
returns-in_default-left_out-clause-keeps g c = KeepsDisk-trans g.E.Env c.if-ends_cleanly.ensures.keeps (record { disk = λ modelled. Run-call modelled (c.read_file.ensures.does modelled); locks = c.read_file.ensures.locks })

pub returns-in_default-left_out-clause-log : goal.returns-in_default-left_out-clause-log
returns-in_default-left_out-clause-log g c = refl

pub returns-clause-keeps : goal.returns-clause-keeps
returns-clause-keeps g c = KeepsDisk-trans g.E.Env c.if-ends_cleanly.ensures.keeps (record { disk = λ modelled. Run-call modelled (c.read_file.ensures.does modelled); locks = c.read_file.ensures.locks })

pub returns-clause-log : goal.returns-clause-log
returns-clause-log g c = c.tell.ensures
