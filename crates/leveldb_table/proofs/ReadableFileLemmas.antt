-- A file that is judged: what is read of it, line by line of its index.
use Rattle.std.proofs.Common.{◌≡◌, ◌+◌, ◌<◌, ◌≤◌, ◌^◌, ℕ, Bool, true, false, List, [], ◌∷◌, flat_map, length, take, drop, Option, None, Some, Result, Ok, Err, refl, sym, ◌∙◌, ap, subst, inl, inr, arith}
use Rattle.std.specs.Prelude.{◌↔◌, ◌≢◌, Contains, IfOk, IsErrAnd, IsSomeAnd, IsTrue, IsSome, MatchOption, OnOk, is_some}
use Rattle.std.specs.List.{AllByRecursion}
use Rattle.std.specs.declared.cmp.Ordering.{Ordering}
use Rattle.std.proofs.lemmas.Bool.{true≢false}
use Rattle.std.proofs.lemmas.List.{length-drop}
use Rattle.std.proofs.lemmas.Result.{IfOk-weaker}
use Rattle.leveldb_base.proofs.PositionLemmas.{position_in}
use Rattle.leveldb_base.specs.BlockHandle.{Handle, HandleFits, handle_bytes}
use Rattle.leveldb_base.specs.Cmp.{internal_accepts}
use Rattle.leveldb_base.specs.KeyTypes.{internal_cmp}
use Rattle.leveldb_base.specs.Types.{Pair, next_position, pair_at, position_within}
use Rattle.leveldb_base.specs.declared.error.Status.{Status}
use Rattle.leveldb_env.specs.Compressor.{Codings, Decodes}
use Rattle.leveldb_env.specs.Env.{File, bytes_of}
use Rattle.leveldb_env.specs.declared.env.Env.{Ghosts}
use Rattle.leveldb_table.specs.Block.{IsBlock}
use Rattle.leveldb_table.specs.BlockWalk.{BlockPosition, pairs_over, position_over}
use Rattle.leveldb_table.specs.Footer.{ReadsFooter}
use Rattle.leveldb_table.specs.ReadableTable.{AreKeysBetween, ForFileOf, HasNoBlockByMore, HasUndecodedBlock, IsNumberedTable, IsReadableTable, IsUndecodedAt, JudgesTable, LineHolds, LinesHold, OpensJudged, PathHas, TestsByMore}
use Rattle.leveldb_table.specs.Table.{HasBlockAt, Part, StoresAt}
use Rattle.leveldb_table.specs.TableBlock.{EndsBefore, FileHas, IsDamaged, IsLackError, IsUndecoded, KeepsDisk, ReadsFile}
use Rattle.leveldb_table.specs.TableLaws.{DecodesMore}
use Rattle.leveldb_table.specs.TableReader.{EndsInFooter}
use Rattle.leveldb_table.specs.declared.table_builder.footer.Footer.{Footer}
use Rattle.leveldb_table.proofs.FooterLemmas.{ends_at, ends_with}
use Rattle.leveldb_table.proofs.ReadableTableLemmas.{rest_contains, rest_from, rest_none, rest_some, rest_within, tests_same}
use Rattle.leveldb_table.proofs.TableBlockLemmas.{FileHas-after, KeepsDisk-refl, KeepsDisk-trans, reads_refused, reads_then, reads_weaker}
use Rattle.leveldb_table.proofs.TableLemmas.{all_with, has_one_block}
use Rattle.leveldb_table.proofs.TableMoreLemmas.{block_by_more}
use Rattle.leveldb_table.proofs.TableReaderLemmas.{blocks_one, one_encoded}

-- ---- the footer

pub footer_read : (bytes : List ℕ) {read : List ℕ} (offset : ℕ) {size : ℕ} (result : Option Footer)
    → offset + 48 ≡ size → size ≡ length bytes → length read ≡ 48
    → read ≡ take 48 (drop offset bytes) → ReadsFooter read result
    → MatchOption result ((meta index : Handle) → EndsInFooter bytes (length bytes) meta index
    → ⊥) (λ there. EndsInFooter bytes (length bytes) there.meta_index there.index)
footer_read bytes offset None past same long is none =
    λ meta index ends. none meta index ends.meta_fits ends.index_fits (is ∙ ends_with offset (past ∙
    same) ends)
footer_read bytes offset (Some footer) past same long is reads = ends_at offset (past ∙ same)
    reads.0 reads.1 long is reads.2

-- ---- what is said of a file of a known size

module _ {E F : Type 0} (env : Ghosts E F) where
  -- a part that is within the file isn't missing
  pub never_damaged : {state : E} {file : F} (offset count size : ℕ) → offset + count ≤ size
      → (status : Status) → IsDamaged env (λ bytes. EndsBefore bytes offset count) state file status
      → IsDamaged env (λ bytes. size ≡ length bytes → ⊥) state file status
  never_damaged offset count size within status damaged = (
    damaged.0,
    λ bytes has same. omega (
      arith,
      within,
      same,
      damaged.1 bytes has,
      length-drop
          offset bytes,
    ),
  )

  -- what is stored at a handle isn't decoded
  pub undecoded_error : (codings : Codings) {state : E} {file : F} {size id : ℕ} {stored : List ℕ}
      {handle : Handle} → ForFileOf env state file size (λ bytes. StoresAt bytes handle id stored)
      → (status : Status) → IsUndecoded codings id stored status
      → IsLackError env codings (λ bytes other. size ≡ length bytes
      → IsUndecodedAt codings bytes handle other) state file status
  undecoded_error codings {id = id} {stored = stored} there status why =
      (inr (id, stored, why), λ bytes has same. (id, stored, there bytes has same, why))

-- ---- a line of the index

module _ {accepts : List ℕ → Bool} {cmp : List ℕ → List ℕ
    → Ordering} {bytes : List ℕ} {before : Option (List ℕ)} {line : Pair} where
  pub unnamed_line : ((handle : Handle) → HandleFits handle → line.1 ≡ handle_bytes handle → ⊥)
      → (more : Codings) → LineHolds (Decodes more) accepts cmp bytes before line → ⊥
  unnamed_line none more holds = none holds.handle holds.is_there.is_there.fits holds.named

  module _ (codings : Codings) {handle : Handle} (named : line.1 ≡ handle_bytes handle) (more :
      Codings) (by : DecodesMore (Decodes codings) (Decodes more)) where
    line_is_there : (holds : LineHolds (Decodes more) accepts cmp bytes before line)
        → HasBlockAt (Decodes more) bytes handle holds.text
    line_is_there holds = subst (λ h. HasBlockAt (Decodes more) bytes h holds.text) (one_encoded
        holds.handle handle (sym holds.named ∙ named)) holds.is_there

    pub lacking_line : HasNoBlockByMore codings cmp bytes handle
        → LineHolds (Decodes more) accepts cmp bytes before line → ⊥
    lacking_line none holds = none more by holds.text holds.pairs (line_is_there holds) holds.block

    -- a line whose block is read holds by its keys
    pub line_by_keys : {text : List ℕ} {pairs : List Pair}
        → HasBlockAt (Decodes codings) bytes handle text → IsBlock cmp text pairs
        → accepts line.0 ≡ true
        → AreKeysBetween accepts cmp before line.0 pairs ↔ LineHolds (Decodes more) accepts cmp
        bytes before line
    line_by_keys {text} {pairs} there block accepted =
        let is_there =
        block_by_more (Decodes codings) (Decodes more) by bytes handle text there in (
          λ between. record {
            handle = handle;
            named = named;
            text = text;
            is_there = is_there;
            pairs = pairs;
            block = block;
            accepted = accepted;
            between = between;
          },
          λ holds. subst (AreKeysBetween accepts cmp before line.0) (blocks_one (has_one_block more
              (line_is_there holds) is_there) holds.block block) holds.between,
        )

-- ---- one after another

pub all_step : (P : Pair → Type 0) (pairs : List Pair) {rest left : List Pair} {pair : Pair}
    → rest ≡ pair ∷ left → P pair → AllByRecursion P pairs ↔ AllByRecursion P rest
    → AllByRecursion P pairs ↔ AllByRecursion P left
all_step P pairs is holds both = (
  (λ all. (subst (AllByRecursion P) is (both.0 all)).1),
  (λ all. both.1 (subst (AllByRecursion P) (sym is) (holds, all))),
)

pub all_stops : (P : Pair → Type 0) (pairs : List Pair) {rest left : List Pair} {pair : Pair}
    → rest ≡ pair ∷ left → (P pair → ⊥) → AllByRecursion P pairs ↔ AllByRecursion P rest
    → AllByRecursion P pairs → ⊥
all_stops P pairs is none both all = none (subst (AllByRecursion P) is (both.0 all)).0

pub all_ends : (P : Pair → Type 0) (pairs : List Pair) {rest : List Pair} → rest ≡ []
    → AllByRecursion P pairs ↔ AllByRecursion P rest → AllByRecursion P pairs
all_ends P pairs is both = both.1 (subst (AllByRecursion P) (sym is) tt)

module _ (Decodes : ℕ → List ℕ → List ℕ → Type 0) (accepts : List ℕ → Bool) (cmp : List ℕ → List ℕ
    → Ordering) (bytes : List ℕ) (lines : List Pair) (before : Option (List ℕ)) where
  pub lines_step : {rest left : List Pair} {line : Pair} → rest ≡ line ∷ left
      → LineHolds Decodes accepts cmp bytes before line
      → LinesHold Decodes accepts cmp bytes None lines ↔ LinesHold Decodes accepts cmp bytes before
      rest
      → LinesHold Decodes accepts cmp bytes None lines ↔ LinesHold Decodes accepts cmp bytes (Some
      line.0) left
  lines_step is holds both = (
    (λ all. (subst (LinesHold Decodes accepts cmp bytes before) is (both.0 all)).1),
    (λ all. both.1 (subst (LinesHold Decodes accepts cmp bytes before) (sym is) (holds, all))),
  )

  pub lines_stop : {rest left : List Pair} {line : Pair} → rest ≡ line ∷ left
      → (LineHolds Decodes accepts cmp bytes before line → ⊥)
      → LinesHold Decodes accepts cmp bytes None lines ↔ LinesHold Decodes accepts cmp bytes before
      rest
      → LinesHold Decodes accepts cmp bytes None lines → ⊥
  lines_stop is none both all = none (subst (LinesHold Decodes accepts cmp bytes before) is (both.0
      all)).0

  pub lines_end : {rest : List Pair} → rest ≡ []
      → LinesHold Decodes accepts cmp bytes None lines ↔ LinesHold Decodes accepts cmp bytes before
      rest → LinesHold Decodes accepts cmp bytes None lines
  lines_end is both = both.1 (subst (LinesHold Decodes accepts cmp bytes before) (sym is) tt)

-- ---- other words for what is accepted

module _ {Decodes : ℕ → List ℕ → List ℕ → Type 0} {accepts others_accept : List ℕ
    → Bool} (alike : (key : List ℕ) → accepts key ≡ others_accept key) {cmp : List ℕ → List ℕ
    → Ordering} {bytes : List ℕ} {pairs : List Pair} where
  pub numbered_alike : IsNumberedTable Decodes accepts cmp bytes pairs
      → IsNumberedTable Decodes others_accept cmp bytes pairs
  numbered_alike is =
      let table = is.table in
      record {
        table = record {
          parts = table.parts;
          metas = table.metas;
          meta = table.meta;
          index = table.index;
          tabled = table.tabled;
          accepted = record {
            pairs = all_with (λ (pair : Pair). accepts pair.0 ≡ true) (λ (pair : Pair).
                others_accept pair.0 ≡ true) (λ pair e. sym (alike pair.0) ∙ e) (flat_map (λ (part :
                Part). part.pairs) table.parts) table.accepted.pairs;
            lines = all_with (λ (part : Part). accepts part.index_key ≡ true) (λ (part : Part).
                others_accept part.index_key ≡ true) (λ part e. sym (alike part.index_key) ∙ e)
                table.parts table.accepted.lines;
          };
          sorted = table.sorted;
          pairs_are = table.pairs_are;
          filters = table.filters;
        };
        numbered = is.numbered;
      }

-- ---- the file at a path

there_is : (found : Option File) (size : ℕ) (bytes : List ℕ)
    → IsSomeAnd found (λ file. size ≡ length (bytes_of file))
    → IsSomeAnd found (λ file. bytes_of file ≡ bytes) → size ≡ length bytes
there_is None size bytes sized there = absurd sized
there_is (Some file) size bytes sized there = sized ∙ ap length there

is_missing : (found : Option File) (bytes : List ℕ) → found ≡ None
    → IsSomeAnd found (λ file. bytes_of file ≡ bytes) → ⊥
is_missing None bytes none there = there
is_missing (Some file) bytes none there = cc

is_found : (found : Option File) (size : ℕ)
    → IsSomeAnd found (λ file. size ≡ length (bytes_of file)) → IsSome found
is_found None size sized = absurd sized
is_found (Some file) size sized = refl

on_ok : {T Error : Type 0} (result : Result T Error) {P : Type 0} → P → OnOk result P
on_ok (Ok value) p = p
on_ok (Err error) p = tt

module _ {E F : Type 0} (env : Ghosts E F) (codings : Codings) (cmp : List ℕ → List ℕ
    → Ordering) {path : List ℕ} {old mid : E} where
  module _ {file : F} {size : ℕ} (fits : size < 2 ^ 64) (opens : OpensJudged env path old (Ok (
    file,
    size,
  )) mid) where
    -- the bytes at the path are the open file's
    judged_has : {bytes : List ℕ} → PathHas env old path bytes
        → FileHas env mid file bytes × (size ≡ length bytes)
    judged_has {bytes} has =
        let is = opens.ok has.modelled in
        let long = there_is ((env.observed old).disk.files path) size bytes is.1 has.there in (
          FileHas-after env opens.reads.kept_disk (record {
            modelled = has.modelled;
            there = subst (λ name. IsSomeAnd ((env.observed old).disk.files name) (λ found. bytes_of
                found ≡ bytes)) (sym is.0) has.there;
            fits = omega (arith, fits, long);
          }),
          long,
        )

    -- a file that is open is judged
    pub judges_open : {accepts : List ℕ → Bool} {new : E} (result : Result Bool Status)
        → ((key : List ℕ) → accepts key ≡ internal_accepts (λ other. true) key)
        → ReadsFile env (IsLackError env codings (λ bytes status. size ≡ length bytes
        → HasUndecodedBlock codings (internal_cmp cmp) bytes status) mid file) mid new result
        → IfOk result (λ holds. ForFileOf env mid file size (λ bytes. TestsByMore codings (λ
        Decodes. (pairs : List Pair) × IsNumberedTable Decodes accepts (internal_cmp cmp) bytes
        pairs) holds))
        → JudgesTable env codings cmp path old result new
    judges_open {accepts} result alike reads ok = record {
      ok = λ bytes has.
          let open_has = judged_has has in
          let Numbered : (ℕ → List ℕ → List ℕ → Type 0)
          → Type 0 = λ Decodes. (pairs : List Pair) × IsNumberedTable Decodes accepts
          (internal_cmp cmp) bytes pairs in
          let Readable : (ℕ → List ℕ → List ℕ → Type 0)
          → Type 0 = λ Decodes. (pairs : List Pair) × IsReadableTable Decodes cmp bytes pairs in
          IfOk-weaker result (λ holds. ForFileOf env mid file size (λ others. TestsByMore codings (λ
          Decodes. (pairs : List Pair) × IsNumberedTable Decodes accepts (internal_cmp cmp)
          others pairs) holds))
          (TestsByMore codings Readable)
          (λ holds tests. tests_same codings Numbered Readable holds (λ more by. (
            λ is. (is.0, numbered_alike alike is.1),
            λ is. (is.0, numbered_alike (λ key. sym (alike key)) is.1),
          )) (tests bytes open_has.0 open_has.1)) ok;
      there = on_ok result (λ modelled. is_found ((env.observed old).disk.files path) size (opens.ok
          modelled).1);
      reads = reads_then env result opens.reads.kept_disk opens.reads.cause.ok
          (λ status why. (
            why.0,
            λ bytes has. let open_has = judged_has has in why.1 bytes
                open_has.0 open_has.1,
          )) reads;
    }

  -- a file that isn't opened isn't judged
  pub judges_none : {status : Status} (result : Result Bool Status)
      → IsErrAnd result (λ other. other ≡ status) → OpensJudged env path old (Err status) mid
      → JudgesTable env codings cmp path old result mid
  judges_none (Ok holds) same opens = absurd same
  judges_none (Err other) same opens = record {
    ok = λ bytes has. tt;
    there = tt;
    reads = reads_refused env {T = F × ℕ} (Err other) same
        (reads_weaker env _ (λ status missing. (
          inl missing.0,
          λ bytes has. absurd (is_missing
              ((env.observed old).disk.files path) bytes (missing.1 has.modelled) has.there),
        ))
        opens.reads);
  }

-- ---- walks over pairs that are judged

-- there is a first pair exactly if there are pairs
some_first : (pairs : List Pair) → is_some (position_within pairs 0) ≡ true ↔ (pairs ≢ [])
some_first [] = (λ e. absurd (true≢false (sym e)), λ some. absurd (some refl))
some_first (pair ∷ pairs) = (
  λ e none. cc,
  λ some. ap is_some (position_in (pair ∷ pairs) 0 (omega
      arith)),
)

module _ {C : Type 0} (P : Pair → Type 0) (pairs : List Pair) where
  -- all pairs are so exactly if those are that a walk has still to pass
  pub record IsPassing (walk : BlockPosition C) : Type 0 where
    pub same : pairs_over walk ≡ pairs
    pub left : AllByRecursion P pairs ↔ AllByRecursion P (rest_from pairs (position_over walk))

  pub passing_first : (start walk : BlockPosition C) → pairs_over start ≡ pairs
      → pairs_over walk ≡ pairs_over start
      → position_over walk ≡ position_within (pairs_over start) 0 → IsPassing walk
  passing_first start walk is kept at =
      let all : rest_from pairs (position_over walk) ≡ pairs = ap (rest_from pairs) (at ∙ ap (λ ps.
      position_within ps 0) is) ∙ rest_within pairs 0 in
      record {
        same = kept ∙ is;
        left = ((λ h. subst (AllByRecursion P) (sym all) h), (λ h. subst (AllByRecursion P) all h));
      }

  module _ {walk : BlockPosition C} (passing : IsPassing walk) where
    pub passing_rest : {pair : Pair} → Some pair ≡ pair_at (pairs_over walk) (position_over walk)
        → rest_from pairs (position_over walk) ≡ pair ∷ rest_from pairs (next_position pairs
        (position_over walk))
    passing_rest {pair} here = rest_some pairs (position_over walk) pair (here ∙ ap (λ ps. pair_at
        ps (position_over walk)) passing.same)

    pub passing_next : {pair : Pair} {next : BlockPosition C}
        → Some pair ≡ pair_at (pairs_over walk) (position_over walk) → P pair
        → pairs_over next ≡ pairs_over walk
        → position_over next ≡ next_position (pairs_over walk) (position_over walk) → IsPassing next
    passing_next {pair} {next} here holds kept at =
        let there : next_position pairs (position_over walk) ≡ position_over next = sym (at ∙ ap (λ
        ps. next_position ps (position_over walk)) passing.same) in
        record {
          same = kept ∙ passing.same;
          left = all_step P pairs (passing_rest here ∙ ap (λ at. pair ∷ rest_from pairs at) there)
              holds passing.left;
        }

    pub passing_smaller : {pair : Pair} (next : BlockPosition C)
        → Some pair ≡ pair_at (pairs_over walk) (position_over walk)
        → position_over next ≡ next_position (pairs_over walk) (position_over walk)
        → length (rest_from pairs (position_over next)) < length (rest_from pairs (position_over
        walk))
    passing_smaller {pair} next here at =
        let there : position_over next ≡ next_position pairs (position_over walk) = at ∙ ap (λ ps.
        next_position ps (position_over walk)) passing.same in
        omega (arith, ap length (passing_rest here), ap (λ at. length (rest_from pairs at)) there)

    pub passing_stops : {pair : Pair} → Some pair ≡ pair_at (pairs_over walk) (position_over walk)
        → (P pair → ⊥) → IsTrue false ↔ ((pairs ≢ []) × AllByRecursion P pairs)
    passing_stops here none = (
      λ e. absurd (true≢false (sym e)),
      λ h. absurd (all_stops P pairs
          (passing_rest here) none passing.left h.1),
    )

    pub passing_ends : (some : Bool) → some ≡ is_some (position_within pairs 0)
        → None ≡ pair_at (pairs_over walk) (position_over walk)
        → IsTrue some ↔ ((pairs ≢ []) × AllByRecursion P pairs)
    passing_ends some is end =
        let all = all_ends P pairs (rest_none pairs (position_over walk) (end ∙ ap (λ ps. pair_at ps
        (position_over walk)) passing.same)) passing.left in
        let first = some_first pairs in
        (λ e. (first.0 (sym is ∙ e), all), λ h. is ∙ first.1 h.0)

-- ---- walks over the lines of an index

module _ {E F C : Type 0} (env : Ghosts E F) (codings : Codings) (accepts : List ℕ
    → Bool) (cmp : List ℕ → List ℕ
    → Ordering) (old : E) (file : F) (size : ℕ) (lines : List Pair) where
  -- all lines hold exactly if those do that a walk has still to pass
  pub record LinesSoFar (before : Option (List ℕ)) (walk : BlockPosition C) (state : E) : Type 0
    where
      pub kept_disk : KeepsDisk env old state
      pub counted : env.failures state ≡ env.failures old
      pub same : pairs_over walk ≡ lines
      pub left : ForFileOf env old file size (λ bytes. (more : Codings)
          → DecodesMore (Decodes codings) (Decodes more)
          → LinesHold (Decodes more) accepts cmp bytes None lines ↔ LinesHold (Decodes more) accepts
          cmp bytes before (rest_from lines (position_over walk)))

  pub so_far_first : (start walk : BlockPosition C) → pairs_over start ≡ lines
      → pairs_over walk ≡ pairs_over start
      → position_over walk ≡ position_within (pairs_over start) 0 → LinesSoFar None walk old
  so_far_first start walk is kept at =
      let all : rest_from lines (position_over walk) ≡ lines = ap (rest_from lines) (at ∙ ap (λ ps.
      position_within ps 0) is) ∙ rest_within lines 0 in
      record {
        kept_disk = KeepsDisk-refl env old;
        counted = refl;
        same = kept ∙ is;
        left = λ bytes has whole more by. (
          (λ h. subst (LinesHold (Decodes more) accepts cmp bytes None) (sym all) h),
          (λ h. subst (LinesHold (Decodes more) accepts cmp bytes None) all h),
        );
      }

  module _ {before : Option (List ℕ)} {walk : BlockPosition C} {state : E} (so_far : LinesSoFar
      before walk state) where
    pub so_far_rest : {line : Pair} → Some line ≡ pair_at (pairs_over walk) (position_over walk)
        → rest_from lines (position_over walk) ≡ line ∷ rest_from lines (next_position lines
        (position_over walk))
    so_far_rest {line} here = rest_some lines (position_over walk) line (here ∙ ap (λ ps. pair_at ps
        (position_over walk)) so_far.same)

    pub so_far_contains : {line : Pair}
        → Some line ≡ pair_at (pairs_over walk) (position_over walk) → Contains lines line
    so_far_contains {line} here = rest_contains lines (position_over walk) line (here ∙ ap (λ ps.
        pair_at ps (position_over walk)) so_far.same)

    pub so_far_smaller : {line : Pair} (next : BlockPosition C)
        → Some line ≡ pair_at (pairs_over walk) (position_over walk)
        → position_over next ≡ next_position (pairs_over walk) (position_over walk)
        → length (rest_from lines (position_over next)) < length (rest_from lines (position_over
        walk))
    so_far_smaller {line} next here at =
        let there : position_over next ≡ next_position lines (position_over walk) = at ∙ ap (λ ps.
        next_position ps (position_over walk)) so_far.same in
        omega (arith, ap length (so_far_rest here), ap (λ at. length (rest_from lines at)) there)

    pub so_far_next : {line : Pair} {next : BlockPosition C} {new : E}
        → Some line ≡ pair_at (pairs_over walk) (position_over walk) → KeepsDisk env state new
        → env.failures new ≡ env.failures state
        → ForFileOf env state file size (λ bytes. TestsByMore codings (λ Decodes. LineHolds Decodes
        accepts cmp bytes before line) true)
        → pairs_over next ≡ pairs_over walk
        → position_over next ≡ next_position (pairs_over walk) (position_over walk)
        → LinesSoFar (Some line.0) next new
    so_far_next {line} {next} {new} here kept counted holds still at =
        let there : next_position lines (position_over walk) ≡ position_over next = sym (at ∙ ap (λ
        ps. next_position ps (position_over walk)) so_far.same) in
        record {
          kept_disk = KeepsDisk-trans env so_far.kept_disk kept;
          counted = counted ∙ so_far.counted;
          same = still ∙ so_far.same;
          left = λ bytes has whole more by.
              lines_step (Decodes more) accepts cmp bytes lines before (so_far_rest here ∙ ap (λ at.
              line ∷ rest_from lines at) there)
              ((holds bytes (FileHas-after env so_far.kept_disk has) whole more by).0 refl)
              (so_far.left bytes has whole more by);
        }

    pub so_far_stops : {line : Pair} → Some line ≡ pair_at (pairs_over walk) (position_over walk)
        → ForFileOf env state file size (λ bytes. TestsByMore codings (λ Decodes. LineHolds Decodes
        accepts cmp bytes before line) false)
        → ForFileOf env old file size (λ bytes. TestsByMore codings (λ Decodes. LinesHold Decodes
        accepts cmp bytes None lines) false)
    so_far_stops here none bytes has whole more by = (
      λ e. absurd (true≢false (sym e)),
      λ all. absurd (lines_stop (Decodes more) accepts cmp bytes lines before (so_far_rest here)
          (λ holds. true≢false (sym ((none bytes (FileHas-after env so_far.kept_disk has) whole more
          by).1 holds))) (so_far.left bytes has whole more by) all),
    )

    pub so_far_ends : None ≡ pair_at (pairs_over walk) (position_over walk)
        → ForFileOf env old file size (λ bytes. TestsByMore codings (λ Decodes. LinesHold Decodes
        accepts cmp bytes None lines) true)
    so_far_ends end bytes has whole more by = (
      λ e. lines_end (Decodes more) accepts cmp bytes lines before (rest_none lines (position_over
          walk) (end ∙ ap (λ ps. pair_at ps (position_over walk)) so_far.same)) (so_far.left bytes
          has whole more by),
      λ all. refl,
    )
