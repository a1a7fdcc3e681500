-- Which file a sample of the keys that are read charges.
use Rattle.std.specs.Prelude.{All, AllPairs, Contains, IsPermutation}
use Rattle.std.proofs.Common.{◌≡◌, inl, inr, ⊎_elim, ℕ, List, [], ◌∷◌, ◌++◌, None, Some, append_assoc, arith, refl, subst}
use Rattle.std.proofs.lemmas.List.Elements.{All-contains, All-nil, All-push}
use Rattle.std.proofs.lemmas.List.Kept.{AllPairs-cons}
use Rattle.std.proofs.lemmas.List.Sorted.{IsPermutation-append_left, IsPermutation-cons, IsPermutation-refl, IsPermutation-trans}
use Rattle.std.specs.declared.cmp.Ordering.{Ordering}
use Rattle.leveldb_base.proofs.HistoryLemmas.{in_front, in_none, in_rest}
use Rattle.leveldb_version.proofs.Versions.DisjointLemmas.{fewer_disjoint}
use Rattle.leveldb_version.proofs.Versions.SearchLemmas.{is_one, stays_left}
use Rattle.leveldb_files.specs.Levels.Levels.{IsInRange}
use Rattle.leveldb_version.specs.Versions.Sampling.{ChargesForSample}
use Rattle.leveldb_version.specs.Versions.Search.{AreDisjointLevels, IsTriedBefore, TakesNextFile}
use Rattle.leveldb_files.specs.Edits.Edit.{NewFile}
use Rattle.leveldb_files.specs.Edits.VersionSet.{level_file}

module _ (cmp : List ℕ → List ℕ → Ordering) (key : List ℕ) (files : List NewFile) where
  abbrev In : NewFile → Type 0
  In file = IsInRange cmp file key

  no_pairs : AllPairs IsTriedBefore []
  no_pairs i j d less within = absurd (omega (arith, within))

  alone : (file : NewFile) → AllPairs IsTriedBefore (file ∷ [])
  alone file = AllPairs-cons IsTriedBefore file [] (All-nil (IsTriedBefore file)) no_pairs

  same_some : {a b : NewFile} → Some a ≡ Some b → a ≡ b
  same_some e = cc

  not_none : {a : NewFile} → None ≡ Some a → ⊥
  not_none e = cc

  -- no file has the key in its range
  pub none_sampled : {left : List NewFile} → TakesNextFile cmp key files None left → AreDisjointLevels cmp files → ChargesForSample cmp key files None
  none_sampled {left} takes apart = record {
    tried = [];
    first = record {
      rest = files;
      once = IsPermutation-refl files;
      in_range = All-nil In;
      in_order = no_pairs;
      others = λ file c has. absurd (never file c has);
    };
    charged = refl;
    all = λ is file c has. absurd (never file c has);
  }
    where
      never : (file : NewFile) → Contains files file → In file → ⊥
      never file c has = ⊎_elim not_none
          (λ (d : Contains left file). in_none file (subst (λ fs. Contains fs file) (takes.none_left refl) d))
          (takes.others apart file c has)

  module _ {file : NewFile} {mid : List NewFile} (takes : TakesNextFile cmp key files (Some file) mid) (apart : AreDisjointLevels cmp files) where
    mid_apart : AreDisjointLevels cmp mid
    mid_apart = fewer_disjoint cmp files mid (stays_left cmp key takes) apart

    -- one has
    pub one_sampled : {left : List NewFile} → TakesNextFile cmp key mid None left → ChargesForSample cmp key files None
    one_sampled {left} more = record {
      tried = file ∷ [];
      first = record {
        rest = mid ++ takes.passed;
        once = takes.once;
        in_range = All-push In [] file (All-nil In) (takes.first apart).0;
        in_order = alone file;
        others = λ other c has. inl (it other c has);
      };
      charged = refl;
      all = λ is. it;
    }
      where
        it : (other : NewFile) → Contains files other → In other → Contains (file ∷ []) other
        it other c has = ⊎_elim
            (λ (same : Some file ≡ Some other). subst (Contains (file ∷ [])) (same_some same) (in_front file []))
            (λ (d : Contains mid other). ⊎_elim (λ (e : None ≡ Some other). absurd (not_none e))
            (λ (e : Contains left other). absurd (in_none other (subst (λ fs. Contains fs other) (more.none_left refl) e)))
            (more.others mid_apart other d has))
            (takes.others apart other c has)

    -- two or more have
    pub two_sampled : {second : NewFile} {left : List NewFile} → TakesNextFile cmp key mid (Some second) left → ChargesForSample cmp key files (Some (level_file file))
    two_sampled {second} {left} more = record {
      tried = file ∷ second ∷ [];
      first = record {
        rest = left ++ (more.passed ++ takes.passed);
        once = IsPermutation-trans files (file ∷ (mid ++ takes.passed)) (file ∷ second ∷ (left ++ (more.passed ++ takes.passed))) takes.once
            (IsPermutation-cons file (mid ++ takes.passed) (second ∷ (left ++ (more.passed ++ takes.passed)))
            (subst (λ fs. IsPermutation (mid ++ takes.passed) (second ∷ fs)) (append_assoc left more.passed takes.passed)
            (IsPermutation-append_left takes.passed mid (second ∷ (left ++ more.passed)) more.once)));
        in_range = All-push In (file ∷ []) second (All-push In [] file (All-nil In) now.0) next.0;
        in_order = AllPairs-cons IsTriedBefore file (second ∷ [])
            (All-push (IsTriedBefore file) [] second (All-nil (IsTriedBefore file)) (before second (is_one cmp key more))) (alone second);
        others = λ other c has. ⊎_elim
            (λ (same : Some file ≡ Some other). inl (subst (Contains (file ∷ second ∷ [])) (same_some same) (in_front file (second ∷ []))))
            (λ (d : Contains mid other). ⊎_elim
            (λ (same : Some second ≡ Some other). inl (subst (Contains (file ∷ second ∷ [])) (same_some same) (in_rest file second (second ∷ []) (in_front second []))))
            (λ (e : Contains left other). inr (All-push (λ one. IsTriedBefore one other) (file ∷ []) second
            (All-push (λ one. IsTriedBefore one other) [] file (All-nil (λ one. IsTriedBefore one other)) (before other d))
            (All-contains (IsTriedBefore second) left other next.1 e)))
            (more.others mid_apart other d has))
            (takes.others apart other c has);
      };
      charged = refl;
      all = λ is. absurd (let never : Some (level_file file) ≡ None = is in cc);
    }
      where
        now : In file × All (IsTriedBefore file) mid
        now = takes.first apart

        next : In second × All (IsTriedBefore second) left
        next = more.first mid_apart

        before : (other : NewFile) → Contains mid other → IsTriedBefore file other
        before other d = All-contains (IsTriedBefore file) mid other now.1 d
