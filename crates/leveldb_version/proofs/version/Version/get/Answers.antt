use Rattle.std.proofs.Common.{◌∙◌, ◌<◌, ◌^◌, List, None, Some, ap, arith, map, refl, subst, sym, ℕ}
use Rattle.std.specs.List.Sorted.{IsNonDecreasingBy}
use Rattle.std.specs.Prelude.{Contains}
use Rattle.std.specs.declared.cmp.Ordering.{Ordering}
use Rattle.leveldb_base.proofs.HistoryLemmas.{exact_order}
use Rattle.leveldb_base.specs.declared.types.FileMetaData.{FileMetaData}
use Rattle.leveldb_env.specs.contracts.compressor.CompressorListCompressors.TheImpl.{ghosts as compressors}
use Rattle.leveldb_files.specs.Stores.Format.{format_of}
use Rattle.leveldb_version.specs.Versions.Search.{TakesNextFile, files_left}
use Rattle.leveldb_version.specs.Tables.TableCache.{table_options}
use Rattle.leveldb_version.specs.Versions.Version.{AreInVersionOrder, VersionValue, new_files_of}
use Rattle.leveldb_files.specs.Edits.Edit.{NewFile}
use Rattle.leveldb_version.specs.Edits.VersionEdit.{new_file_of}
use Rattle.leveldb_version.proofs.Versions.GetLemmas.{ends_there, goes_on_without, not_begun, stops_unread, stops_with}
use Rattle.leveldb_version.proofs.Versions.SearchLemmas.{each_fits, fewer_left}
use Rattle.leveldb_version.proofs.Versions.VersionLemmas.{levels_rise}
use Rattle.leveldb_version.proofs.version.Version.get.Goals as goal

pub new-files-requires : goal.new-files-requires
new-files-requires g c =
    subst (λ (files : List (ℕ × FileMetaData)). IsNonDecreasingBy (λ (file : ℕ × FileMetaData). file.0) files) (sym c.as_slice.ensures.value)
    (levels_rise (g.C.Cmp.cmp c.self.inside.cmp) c.self.inside.files.items c.self.invariant.0)

pub loop-file-init : goal.loop-file-init
loop-file-init g c =
    let options = c.args.options.now in
    let by = table_options (format_of g.C.Cmp g.FP.FilterPolicy (compressors g.dyn-2).codings options) options in
    let version = c.args.self.now in
    let all = c.new-files.ensures ∙ ap (map new_file_of) (c.as_slice.ensures.value ∙ ap (λ (v : VersionValue g.row.C.Denot). v.files) c.self.view_is) in
    let sorted = subst (λ (v : VersionValue g.row.C.Denot). AreInVersionOrder (g.C.Cmp.cmp v.cmp) (new_files_of v)) c.self.view_is c.self.invariant.0 in
    not_begun _ g.E.Env by c.args.key.now c.args.env.now c.args.tables.now version (files_left c.new-files.result) all
    (subst (λ (order : List ℕ → List ℕ → Ordering). AreInVersionOrder order (new_files_of version)) (sym c.requires.order) sorted)

pub returns-in_err-found : goal.returns-in_err-found
returns-in_err-found g c =
    let options = c.args.options.now in
    let cmp = options.cmp in
    let by = table_options (format_of g.C.Cmp g.FP.FilterPolicy (compressors g.dyn-2).codings options) options in
    let exact = exact_order (g.C.Cmp.accepts cmp) (g.C.Cmp.cmp cmp) (g.met.C.UserCmp.accepts_all cmp) (g.met.C.Cmp.preorder cmp) (g.met.C.UserCmp.exact cmp) in
    let same = ap (λ (v : VersionValue g.row.C.Denot). g.C.Cmp.cmp v.cmp) c.self.view_is ∙ sym c.requires.order in
    let left = files_left c.loop-file.files in
    let after = files_left c.next.new.self in
    let file = new_file_of c.in-Some.file.now in
    let takes = subst (λ (key : List ℕ). TakesNextFile (g.C.Cmp.cmp cmp) key left (Some file) after) c.user_key.ensures
    (subst (λ (order : List ℕ → List ℕ → Ordering). TakesNextFile order c.user_key.result.now left (Some file) after) same c.in-Some.ensures) in
    let sizes = subst (λ (v : VersionValue g.row.C.Denot). (one : NewFile) → Contains (new_files_of v) one → one.size < 2 ^ 64) c.self.view_is
    (λ one there. (each_fits c.self.inside.files.items c.self.invariant.1 one there).1) in
    let fits : c.in-Some.file.now.1.num < 2 ^ 64 = omega arith in
    stops_unread _ g.E.Env by c.args.key.now c.args.env.now c.args.tables.now c.args.self.now c.loop-file.invariant takes fits exact refl c.requires.tagged sizes
    c.in_err-found.field-0.0 c.from_residual.result c.from_residual.ensures.1 c.in_err-found.ensures

pub returns-then-not-is_absent : goal.returns-then-not-is_absent
returns-then-not-is_absent g c =
    let options = c.args.options.now in
    let cmp = options.cmp in
    let by = table_options (format_of g.C.Cmp g.FP.FilterPolicy (compressors g.dyn-2).codings options) options in
    let exact = exact_order (g.C.Cmp.accepts cmp) (g.C.Cmp.cmp cmp) (g.met.C.UserCmp.accepts_all cmp) (g.met.C.Cmp.preorder cmp) (g.met.C.UserCmp.exact cmp) in
    let same = ap (λ (v : VersionValue g.row.C.Denot). g.C.Cmp.cmp v.cmp) c.self.view_is ∙ sym c.requires.order in
    let left = files_left c.loop-file.files in
    let after = files_left c.next.new.self in
    let file = new_file_of c.in-Some.file.now in
    let takes = subst (λ (key : List ℕ). TakesNextFile (g.C.Cmp.cmp cmp) key left (Some file) after) c.user_key.ensures
    (subst (λ (order : List ℕ → List ℕ → Ordering). TakesNextFile order c.user_key.result.now left (Some file) after) same c.in-Some.ensures) in
    let sizes = subst (λ (v : VersionValue g.row.C.Denot). (one : NewFile) → Contains (new_files_of v) one → one.size < 2 ^ 64) c.self.view_is
    (λ one there. (each_fits c.self.inside.files.items c.self.invariant.1 one there).1) in
    let fits : c.in-Some.file.now.1.num < 2 ^ 64 = omega arith in
    stops_with _ g.E.Env by c.args.key.now c.args.env.now c.args.tables.now c.args.self.now c.loop-file.invariant takes fits exact refl c.requires.tagged sizes
    c.in_ok-found.found (sym c.is_absent.ensures ∙ c.if-not-is_absent.true) (record { file = c.loop-file.first }) refl c.in_ok-found.ensures

pub loop-file-smaller : goal.loop-file-smaller
loop-file-smaller g c = fewer_left c.in-Some.ensures

pub loop-file-preserved : goal.loop-file-preserved
loop-file-preserved g c =
    let options = c.args.options.now in
    let cmp = options.cmp in
    let by = table_options (format_of g.C.Cmp g.FP.FilterPolicy (compressors g.dyn-2).codings options) options in
    let same = ap (λ (v : VersionValue g.row.C.Denot). g.C.Cmp.cmp v.cmp) c.self.view_is ∙ sym c.requires.order in
    let left = files_left c.loop-file.files in
    let after = files_left c.next.new.self in
    let file = new_file_of c.in-Some.file.now in
    let takes = subst (λ (key : List ℕ). TakesNextFile (g.C.Cmp.cmp cmp) key left (Some file) after) c.user_key.ensures
    (subst (λ (order : List ℕ → List ℕ → Ordering). TakesNextFile order c.user_key.result.now left (Some file) after) same c.in-Some.ensures) in
    let fits : c.in-Some.file.now.1.num < 2 ^ 64 = omega arith in
    goes_on_without _ g.E.Env by c.args.key.now c.args.env.now c.args.tables.now c.args.self.now c.loop-file.invariant takes fits
    c.in_ok-found.found (sym c.is_absent.ensures ∙ c.if-not-is_absent.false) c.or-first.result c.or-first.ensures c.in_ok-found.ensures

pub returns : goal.returns
returns g c =
    let options = c.args.options.now in
    let cmp = options.cmp in
    let by = table_options (format_of g.C.Cmp g.FP.FilterPolicy (compressors g.dyn-2).codings options) options in
    let exact = exact_order (g.C.Cmp.accepts cmp) (g.C.Cmp.cmp cmp) (g.met.C.UserCmp.accepts_all cmp) (g.met.C.Cmp.preorder cmp) (g.met.C.UserCmp.exact cmp) in
    let same = ap (λ (v : VersionValue g.row.C.Denot). g.C.Cmp.cmp v.cmp) c.self.view_is ∙ sym c.requires.order in
    let left = files_left c.loop-file.files in
    let after = files_left c.next.new.self in
    let takes = subst (λ (key : List ℕ). TakesNextFile (g.C.Cmp.cmp cmp) key left None after) c.user_key.ensures
    (subst (λ (order : List ℕ → List ℕ → Ordering). TakesNextFile order c.user_key.result.now left None after) same c.in_default.ensures) in
    let sizes = subst (λ (v : VersionValue g.row.C.Denot). (one : NewFile) → Contains (new_files_of v) one → one.size < 2 ^ 64) c.self.view_is
    (λ one there. (each_fits c.self.inside.files.items c.self.invariant.1 one there).1) in
    ends_there _ g.E.Env by c.args.key.now c.args.env.now c.args.tables.now c.args.self.now c.loop-file.invariant exact refl c.requires.tagged sizes takes c.loop-file.stats refl
