use Rattle.std.proofs.Common.{◌∙◌, ◌<◌, ◌^◌, ◌∷◌, [], inl, inr, ap, arith, refl, subst, sym}
use Rattle.std.proofs.lemmas.Result.{IfOk-from_err}
use Rattle.leveldb_base.specs.contracts.cmp.internal.InternalKeyCmpCmp.TheImpl.{ghosts as key_cmp}
use Rattle.leveldb_env.proofs.EnvLemmas.{cause_refused}
use Rattle.leveldb_env.specs.contracts.compressor.CompressorListCompressors.TheImpl.{ghosts as compressors}
use Rattle.leveldb_env.specs.contracts.filter.internal.InternalFilterPolicyFilterPolicy.TheImpl.{ghosts as key_policy}
use Rattle.leveldb_version_set.specs.Sets.VersionSetValue.{AreFileNumbersUsedUp}
use Rattle.leveldb_store.specs.Tables.BuildTable.{choices_of}
use Rattle.leveldb_store.specs.Tables.TableFile.{ChangesOneFile, FailsToWrite}
use Rattle.leveldb_store.proofs.Tables.CreatedLemmas.{first_added, first_changes, key_accepted, none_cause, none_changes, uncreated_changes}
use Rattle.leveldb_store.proofs.ExitLemmas.{at_error, at_error_with}
use Rattle.leveldb_store.proofs.Tables.OutputsLemmas.{new-none, not_begun, outputs_begun, table_begun}
use Rattle.leveldb_store.proofs.Tables.PartsLemmas.{begun_added, begun_left, created_parts, created_stops, parts_none}
use Rattle.leveldb_store.proofs.Tables.TableFileLemmas.{all_written, device_fails, opened_is, own_fails}
use Rattle.leveldb_store.proofs.outputs.Outputs.begin.Goals as goal

pub add-requires-clause-accepted : goal.add-requires-clause-accepted
add-requires-clause-accepted g c = λ unbroken. key_accepted (g.met.C.UserCmp.accepts_all _) c.args.key.now c.requires.tagged

-- no file is made
pub returns-in_err-reserve : goal.returns-in_err-reserve
returns-in_err-reserve g c =
    let exit = c.from_residual in
    let choices = choices_of g.C.Cmp g.FP.FilterPolicy (key_cmp g.row.C g.C.UserCmp g.C.UserCmp-dict g.C.Cmp g.C.Cmp-dict) (key_policy g.row.FP g.FP.FilterPolicy g.FP.FilterPolicy-dict) (compressors g.dyn-2).codings c.args.options.now in
    record {
      begins = record {
        ok = λ first tables are cut. IfOk-from_err exit.result _ exit.ensures.0;
        ends = IfOk-from_err exit.result _ exit.ensures.0;
        changes = new-none g.E.Env c.args.store.now _ c.args.env.now;
        parts = parts_none choices g.E.Env ((c.args.key.now, c.args.value.now) ∷ []) c.args.env.now;
        cause = at_error_with (FailsToWrite _ _ _) exit.result exit.ensures.1 (λ status memory. own_fails refl (inl memory));
      };
      numbers = inl refl;
      version = refl;
    }

pub returns-in_err-smallest : goal.returns-in_err-smallest
returns-in_err-smallest g c =
    let exit = c.from_residual-in_err-smallest in
    let choices = choices_of g.C.Cmp g.FP.FilterPolicy (key_cmp g.row.C g.C.UserCmp g.C.UserCmp-dict g.C.Cmp g.C.Cmp-dict) (key_policy g.row.FP g.FP.FilterPolicy g.FP.FilterPolicy-dict) (compressors g.dyn-2).codings c.args.options.now in
    record {
      begins = record {
        ok = λ first tables are cut. IfOk-from_err exit.result _ exit.ensures.0;
        ends = IfOk-from_err exit.result _ exit.ensures.0;
        changes = new-none g.E.Env c.args.store.now _ c.args.env.now;
        parts = parts_none choices g.E.Env ((c.args.key.now, c.args.value.now) ∷ []) c.args.env.now;
        cause = at_error (FailsToWrite _ _ _) exit.result exit.ensures.1 (own_fails refl (inl c.in_err-smallest.ensures.memory));
      };
      numbers = inl refl;
      version = refl;
    }

pub returns-in_err-number : goal.returns-in_err-number
returns-in_err-number g c =
    let exit = c.from_residual-in_err-number in
    let same = c.in_err-number.ensures.err in
    let choices = choices_of g.C.Cmp g.FP.FilterPolicy (key_cmp g.row.C g.C.UserCmp g.C.UserCmp-dict g.C.Cmp g.C.Cmp-dict) (key_policy g.row.FP g.FP.FilterPolicy g.FP.FilterPolicy-dict) (compressors g.dyn-2).codings c.args.options.now in
    record {
      begins = record {
        ok = λ first tables are cut. IfOk-from_err exit.result _ exit.ensures.0;
        ends = IfOk-from_err exit.result _ exit.ensures.0;
        changes = new-none g.E.Env c.args.store.now _ c.args.env.now;
        parts = parts_none choices g.E.Env ((c.args.key.now, c.args.value.now) ∷ []) c.args.env.now;
        cause = at_error (FailsToWrite _ _ _) exit.result exit.ensures.1
            (own_fails refl (inr (inr (subst (λ v. AreFileNumbersUsedUp v.set.next_file c.in_err-number.field-0.0) (sym same) c.in_err-number.ensures.cause), refl)));
      };
      numbers = inl (ap (λ v. v.set) same);
      version = ap (λ v. v.current) same;
    }

pub returns-in_err-path : goal.returns-in_err-path
returns-in_err-path g c =
    let exit = c.from_residual-in_err-path in
    let given = c.in_ok-number.ensures.ok in
    let choices = choices_of g.C.Cmp g.FP.FilterPolicy (key_cmp g.row.C g.C.UserCmp g.C.UserCmp-dict g.C.Cmp g.C.Cmp-dict) (key_policy g.row.FP g.FP.FilterPolicy g.FP.FilterPolicy-dict) (compressors g.dyn-2).codings c.args.options.now in
    record {
      begins = record {
        ok = λ first tables are cut. IfOk-from_err exit.result _ exit.ensures.0;
        ends = IfOk-from_err exit.result _ exit.ensures.0;
        changes = new-none g.E.Env c.args.store.now _ c.args.env.now;
        parts = parts_none choices g.E.Env ((c.args.key.now, c.args.value.now) ∷ []) c.args.env.now;
        cause = at_error (FailsToWrite _ _ _) exit.result exit.ensures.1 (own_fails refl (inl c.in_err-path.ensures.cause));
      };
      numbers = inr (ap (λ v. v.set) given);
      version = ap (λ v. v.current) given;
    }

-- the file isn't made
pub returns-in_err-table : goal.returns-in_err-table
returns-in_err-table g c =
    let exit = c.from_residual-in_err-table in
    let given = c.in_ok-number.ensures.ok in
    let number_is = c.in_ok-number.ensures.number in
    let o = c.create.ensures in
    let choices = choices_of g.C.Cmp g.FP.FilterPolicy (key_cmp g.row.C g.C.UserCmp g.C.UserCmp-dict g.C.Cmp g.C.Cmp-dict) (key_policy g.row.FP g.FP.FilterPolicy g.FP.FilterPolicy-dict) (compressors g.dyn-2).codings c.args.options.now in
    record {
      begins = record {
        ok = λ first tables are cut. IfOk-from_err exit.result _ exit.ensures.0;
        ends = IfOk-from_err exit.result _ exit.ensures.0;
        changes = uncreated_changes g.E.Env c.args.store.now o.does o.locks o.cause.later (c.deref.ensures ∙ c.in_ok-path.ensures.ok) number_is (omega (arith, number_is, c.in_ok-number.ensures.fits)) (ap (λ v. v.set.next_file) given);
        parts = created_parts choices g.E.Env ((c.args.key.now, c.args.value.now) ∷ []) _ c.new_builder-core.ensures o.does;
        cause = at_error (FailsToWrite _ _ _) exit.result exit.ensures.1 (device_fails (λ memory. memory) (λ memory. memory) (cause_refused c.in_err-table.ensures.cause));
      };
      numbers = inr (ap (λ v. v.set) given);
      version = ap (λ v. v.current) given;
    }

-- the first pair isn't added
pub returns-in_err-add : goal.returns-in_err-add
returns-in_err-add g c =
    let exit = c.from_residual-in_err-add in
    let given = c.in_ok-number.ensures.ok in
    let number_is = c.in_ok-number.ensures.number in
    let fits : c.in_ok-number.number < 2 ^ 64 = omega (arith, number_is, c.in_ok-number.ensures.fits) in
    let next = ap (λ v. v.set.next_file) given in
    let path_is = c.deref.ensures ∙ c.in_ok-path.ensures.ok in
    let o = c.in_ok-table.ensures in
    let new = c.new_builder-core.ensures in
    let choices = choices_of g.C.Cmp g.FP.FilterPolicy (key_cmp g.row.C g.C.UserCmp g.C.UserCmp-dict g.C.Cmp g.C.Cmp-dict) (key_policy g.row.FP g.FP.FilterPolicy g.FP.FilterPolicy-dict) (compressors g.dyn-2).codings c.args.options.now in
    record {
      begins = record {
        ok = λ first tables are cut. IfOk-from_err exit.result _ exit.ensures.0;
        ends = IfOk-from_err exit.result _ exit.ensures.0;
        changes = none_changes g.E.Env c.args.store.now o.does o.locks o.cause o.file path_is number_is fits next c.in_err-add.ensures.err;
        parts = begun_left choices g.E.Env (c.args.key.now, c.args.value.now) new o.is.1 o.does o.file c.in_err-add.ensures.left (created_stops g.E.Env o.does o.file c.in_err-add.ensures.err).changes;
        cause = at_error (FailsToWrite _ _ _) exit.result exit.ensures.1 (none_cause g.E.Env c.args.store.now o.does o.locks o.cause o.file path_is number_is fits next
            (λ own. inl (not_begun choices g.E.Env c.args.store.now (c.args.key.now, c.args.value.now) new o.is.1 own)) c.in_err-add.ensures.err);
      };
      numbers = inr (ap (λ v. v.set) given);
      version = ap (λ v. v.current) given;
    }

-- it is added
pub returns-clause-begins : goal.returns-clause-begins
returns-clause-begins g c =
    let o = c.in_ok-table.ensures in
    let number_is = c.in_ok-number.ensures.number in
    let path_is = c.deref.ensures ∙ c.in_ok-path.ensures.ok in
    let fits : c.in_ok-number.number < 2 ^ 64 = omega (arith, number_is, c.in_ok-number.ensures.fits) in
    let choices = choices_of g.C.Cmp g.FP.FilterPolicy (key_cmp g.row.C g.C.UserCmp g.C.UserCmp-dict g.C.Cmp g.C.Cmp-dict) (key_policy g.row.FP g.FP.FilterPolicy g.FP.FilterPolicy-dict) (compressors g.dyn-2).codings c.args.options.now in
    let new = c.new_builder-core.ensures in
    let adds = c.in_ok-add.ensures.ok in
    let same = c.add.ensures.same in
    let next = ap (λ v. v.set.next_file) c.in_ok-number.ensures.ok in
    record {
      ok = λ first tables are cut.
          outputs_begun choices g.E.Env c.args.store.now refl (c.reserve.ensures.items ∙ ap (λ v. v.done) c.self.view_is) are cut number_is next fits (same.0 ∙ o.is.0)
          (subst (λ p. ChangesOneFile g.E.Env p c.args.env.now c.add.new.env) path_is (first_added g.E.Env c.args.store.now o.does o.locks o.cause o.file path_is number_is fits next adds.longer))
          (table_begun choices g.E.Env c.args.store.now (c.args.key.now, c.args.value.now) new o.is.1 o.is.0 (o.is.2 ∙ c.in_ok-smallest.ensures.ok) fits (opened_is g.E.Env o.does o.file) (λ modelled. o.file modelled ∙ path_is)
          c.in_ok-smallest.ensures.bytes adds c.add.ensures.choices same.0 same.1);
      ends = refl;
      changes = first_changes g.E.Env c.args.store.now o.does o.locks o.cause o.file path_is number_is fits next adds.longer;
      parts = begun_added choices g.E.Env (c.args.key.now, c.args.value.now) new o.is.1 o.does o.file adds c.add.ensures.choices;
      cause = all_written (adds.longer.counted ∙ o.cause.ok);
    }

pub returns-clause-numbers : goal.returns-clause-numbers
returns-clause-numbers g c = inr (ap (λ v. v.set) c.in_ok-number.ensures.ok)

pub returns-clause-version : goal.returns-clause-version
returns-clause-version g c = ap (λ v. v.current) c.in_ok-number.ensures.ok
