-- Walks that are appended one by one.
use Rattle.std.specs.Prelude.{All, flat_map, reverse}
use Rattle.std.proofs.Common.{◌≡◌, ⊎_elim, ℕ, zero, suc, ◌==◌, ◌-◌, ◌<◌, ◌≤◌, Bool, true, false, List, [], ◌∷◌, ◌++◌, None, length, map, take, drop, refl, sym, ◌∙◌, ap, append_assoc, subst, arith}
use Rattle.std.proofs.lemmas.Bool.{cases_lt, eq-eqb, eqb-true}
use Rattle.std.proofs.lemmas.List.{append-nil, length-append, map-append}
use Rattle.std.proofs.lemmas.List.Concat.{flat_map-append}
use Rattle.std.proofs.lemmas.List.Elements.{All-append, All-nil, All-push}
use Rattle.std.proofs.lemmas.Grind.{reverse_onto}
use Rattle.leveldb_base.specs.declared.types.FileMetaData.{FileMetaData}
use Rattle.leveldb_version.proofs.Versions.SearchLemmas.{empty}
use Rattle.leveldb_version.specs.Versions.Version.{VersionValue, at_level}
use Rattle.leveldb_version.specs.Walks.VersionIters.{AreVersionIters, AreWalksOf, each_alone, files_of_iters, if_some, levels_of_walks}
use Rattle.leveldb_version.specs.declared.version_iter.VersionIter.{VersionIter}

-- the levels from 1 on
abbrev pub deep_levels : List ℕ
deep_levels = 1 ∷ 2 ∷ 3 ∷ 4 ∷ 5 ∷ 6 ∷ []

-- the files of each of these levels that has some
abbrev pub levels_among : List ℕ → List (ℕ × FileMetaData) → List (List (ℕ × FileMetaData))
levels_among levels files = flat_map (λ level. if_some (at_level level files)) levels

next_level : (n : ℕ) → n < 6 → take (suc n) deep_levels ≡ take n deep_levels ++ suc n ∷ []
next_level zero fits = refl
next_level (suc zero) fits = refl
next_level (suc (suc zero)) fits = refl
next_level (suc (suc (suc zero))) fits = refl
next_level (suc (suc (suc (suc zero)))) fits = refl
next_level (suc (suc (suc (suc (suc zero))))) fits = refl
next_level (suc (suc (suc (suc (suc (suc n)))))) fits = absurd (omega (arith, fits))

level_before : (level : ℕ) → 1 ≤ level → level < 7 → take level deep_levels ≡ take (level - 1) deep_levels ++ level ∷ []
level_before zero from to = absurd (omega (arith, from))
level_before (suc n) from to =
    let less : suc n - 1 ≡ n = omega arith in
    next_level n (omega (arith, to)) ∙ ap (λ m. take m deep_levels ++ suc n ∷ []) (sym less)

levels_more : (level : ℕ) (files : List (ℕ × FileMetaData)) → 1 ≤ level → level < 7
    → levels_among (take level deep_levels) files ≡ levels_among (take (level - 1) deep_levels) files ++ if_some (at_level level files)
levels_more level files from to =
    ap (λ levels. levels_among levels files) (level_before level from to)
    ∙ flat_map-append (λ l. if_some (at_level l files)) (take (level - 1) deep_levels) (level ∷ [])
    ∙ ap (λ more. levels_among (take (level - 1) deep_levels) files ++ more) (append-nil (if_some (at_level level files)))

alone_more : (file : ℕ × FileMetaData) (files : List (ℕ × FileMetaData)) → each_alone (file ∷ files) ≡ each_alone files ++ (file ∷ []) ∷ []
alone_more file files =
    ap (map (λ f. f ∷ [])) (reverse_onto files file []) ∙ map-append (λ f. f ∷ []) (reverse files) (file ∷ [])

-- whether a part has files, by the test of its length
pub some_files : (part files : List (ℕ × FileMetaData)) (test : Bool) → test ≡ (length part == 0) → test ≡ false → part ≡ files → 0 < length files
some_files part files test is off same = ⊎_elim
    (λ (less : 0 < length part). subst (λ (fs : List (ℕ × FileMetaData)). 0 < length fs) same less)
    (λ (most : length part ≤ 0). let t = eq-eqb (length part) 0 (omega (arith, most)) in let never : true ≡ false = sym t ∙ sym is ∙ off in cc)
    (cases_lt 0 (length part))

pub no_files : (part files : List (ℕ × FileMetaData)) (test : Bool) → test ≡ (length part == 0) → test ≡ true → part ≡ files → files ≡ []
no_files part files test is on same = sym same ∙ empty part (eqb-true (length part) 0 (sym is ∙ on))

drop_front : (files more : List (ℕ × FileMetaData)) → drop (length files) (files ++ more) ≡ more
drop_front [] more = refl
drop_front (file ∷ files) more = drop_front files more

-- the last file alone
pub last_alone : (left files : List (ℕ × FileMetaData)) (file : ℕ × FileMetaData) → left ≡ files ++ file ∷ []
    → take (length left - length files) (drop (length files) left) ≡ file ∷ []
last_alone left files file is =
    let long = ap length is ∙ length-append files (file ∷ []) in
    let one : length left - length files ≡ 1 = omega (arith, long) in
    ap (λ n. take n (drop (length files) left)) one ∙ ap (λ fs. take 1 (drop (length files) fs)) is ∙ ap (take 1) (drop_front files (file ∷ []))

module _ {C : Type 0} where
  pub walks_none : (old : List (VersionIter C)) → AreWalksOf old [] old
  walks_none old = ([], sym (append-nil old), refl, All-nil (λ (it : VersionIter C). it.core ≡ None))

  pub walks_push : (old new : List (VersionIter C)) (files : List (List (ℕ × FileMetaData))) (it : VersionIter C)
      → AreWalksOf old files new → it.core ≡ None → AreWalksOf old (files ++ it.files.now ∷ []) (new ++ it ∷ [])
  walks_push old new files it (more, is, walks, begun) none = (
    more ++ it ∷ [],
    ap (λ its. its ++ it ∷ []) is ∙ append_assoc old more (it ∷ []),
    map-append (λ (one : VersionIter C). one.files.now) more (it ∷ []) ∙ ap (λ fs. fs ++ it.files.now ∷ []) walks,
    All-push (λ (one : VersionIter C). one.core ≡ None) more it begun none,
  )

  -- a walk over one file more
  pub walks_alone : (old new : List (VersionIter C)) (file : ℕ × FileMetaData) (files : List (ℕ × FileMetaData)) (it : VersionIter C)
      → AreWalksOf old (each_alone files) new → it.files.now ≡ file ∷ [] → it.core ≡ None → AreWalksOf old (each_alone (file ∷ files)) (new ++ it ∷ [])
  walks_alone old new file files it walks is none =
      subst (λ fs. AreWalksOf old fs (new ++ it ∷ [])) (ap (λ f. each_alone files ++ f ∷ []) is ∙ sym (alone_more file files))
      (walks_push old new (each_alone files) it walks none)

  -- a level that has no files
  pub walks_empty : (old new : List (VersionIter C)) (level : ℕ) (files : List (ℕ × FileMetaData)) → 1 ≤ level → level < 7
      → AreWalksOf old (levels_among (take (level - 1) deep_levels) files) new → at_level level files ≡ []
      → AreWalksOf old (levels_among (take level deep_levels) files) new
  walks_empty old new level files from to walks none =
      subst (λ fs. AreWalksOf old fs new)
      (sym (levels_more level files from to ∙ ap (λ part. levels_among (take (level - 1) deep_levels) files ++ if_some part) none ∙ append-nil (levels_among (take (level - 1) deep_levels) files))) walks

  -- a walk over a level that has some
  pub walks_level : (old new : List (VersionIter C)) (level : ℕ) (files : List (ℕ × FileMetaData)) (it : VersionIter C) → 1 ≤ level → level < 7
      → AreWalksOf old (levels_among (take (level - 1) deep_levels) files) new → it.files.now ≡ at_level level files → 0 < length (at_level level files) → it.core ≡ None
      → AreWalksOf old (levels_among (take level deep_levels) files) (new ++ it ∷ [])
  walks_level old new level files it from to walks is some none =
      subst (λ fs. AreWalksOf old fs (new ++ it ∷ []))
      (ap (λ part. levels_among (take (level - 1) deep_levels) files ++ part) (ap (λ part. part ∷ []) is ∙ sym (alone (at_level level files) some)) ∙ sym (levels_more level files from to))
      (walks_push old new (levels_among (take (level - 1) deep_levels) files) it walks none)
    where
      alone : (part : List (ℕ × FileMetaData)) → 0 < length part → if_some part ≡ part ∷ []
      alone [] some = absurd (omega (arith, some))
      alone (x ∷ xs) some = refl

  -- walks over all files of a version
  pub walks_of_version : (version : VersionValue C) (alone iters : List (VersionIter C))
      → AreWalksOf [] (each_alone (at_level 0 version.files)) alone → AreWalksOf alone (levels_of_walks version.files) iters → AreVersionIters version iters
  walks_of_version version alone iters (first, first_is, first_files, first_begun) (more, more_is, more_files, more_begun) = record {
    files = ap files_of_iters is ∙ map-append (λ (one : VersionIter C). one.files.now) first more
        ∙ ap (λ fs. fs ++ files_of_iters more) first_files ∙ ap (λ fs. each_alone (at_level 0 version.files) ++ fs) more_files;
    not_begun = subst (All (λ (it : VersionIter C). it.core ≡ None)) (sym is) (All-append (λ (it : VersionIter C). it.core ≡ None) first more first_begun more_begun);
  }
    where
      is : iters ≡ first ++ more
      is = more_is ∙ ap (λ its. its ++ more) first_is
