-- The values of a window over a base that is the serial map are those of the serial map.
use Rattle.std.proofs.Common.{◌≡◌, ◌==◌, ℕ, zero, suc, ◌≤◌, ◌<◌, Bool, true, false, Some, None, Option, List, [], ◌∷◌, ◌++◌, map, refl, sym, ◌∙◌, ap, subst, arith, inl, inr, ◌⊎◌}
use Rattle.std.proofs.lemmas.Grind.{common_steps}
use Rattle.ov_functor.specs.declared.item.Item.{Item}
use Rattle.ov_functor.specs.declared.item.Valued.{Valued}
use Rattle.ov_functor.specs.declared.part.Part.{Part}
use Rattle.ov_functor.specs.Execution.{Map, empty, exec}
use Rattle.ov_functor.specs.Functor.{functor_of, reads, apply}
use Rattle.ov_functor.specs.Placeholder.{Placeholder}
use Rattle.ov_functor.specs.Serial.{executed_at, serial}
use Rattle.ov_functor.specs.Values.{latest, value_or, upto, just_below, valued, evaluated}
use Rattle.ov_functor.specs.Windows.{Among, Writes, Fits, HasItem, Covers, Descends}
use Rattle.ov_functor.proofs.Agreement.{apply-is-exec, exec-keeps-others}
use Rattle.ov_functor.proofs.Latest.{IsLatest, latest-is-latest, among-either}

-- ---- lists of values that are sound and complete

-- The value is that of its key just after its version, whose transaction writes the key.
pub record Right (begun : ℕ → Option (List Part)) (value : Valued) : Type 0 where
  pub writes : Writes begun value.version value.key
  pub value_is : value.value ≡ serial begun (suc value.version) value.key

-- The list has a value of this version and key.
pub record HasValue (values : List Valued) (version : ℕ) (key : List ℕ) : Type 0 where
  pub found : Valued
  pub within : Among found values
  pub version_is : found.version ≡ version
  pub key_is : found.key ≡ key

-- each value is right
abbrev pub Sound : (ℕ → Option (List Part)) → List Valued → Type 0
Sound begun values = (value : Valued) → Among value values → Right begun value

-- each write from one number up to another has its value
abbrev pub Complete : (ℕ → Option (List Part)) → List Valued → ℕ → ℕ → Type 0
Complete begun values from below = (version : ℕ) (key : List ℕ) → from ≤ version → version < below → Writes begun version key → HasValue values version key

-- ---- the versions of the values of items

-- what holds of the versions of all items holds of those of their values
pub evaluated-versions : (base : Map) (items : List Item) (P : ℕ → Type 0) →
    ((item : Item) → Among item items → P item.version) → (value : Valued) → Among value (evaluated base items) → P value.version
evaluated-versions base [] P all value among = absurd among
evaluated-versions base (item ∷ older) P all value (inl is) = subst (λ one. P one.version) (sym is) (all item (inl refl))
evaluated-versions base (item ∷ older) P all value (inr among) = evaluated-versions base older P (λ one rest. all one (inr rest)) value among

-- the values of items are from a number on where the items are
pub evaluated-from : (base : Map) (items : List Item) (from : ℕ) →
    ((item : Item) → Among item items → from ≤ item.version) → (value : Valued) → Among value (evaluated base items) → from ≤ value.version
evaluated-from base items from above value among = evaluated-versions base items (λ version. from ≤ version) above value among

module _ (begun : ℕ → Option (List Part)) where
  -- ---- where the serial map stays

  -- a version that does not write the key leaves it
  pub serial-unwritten : (version : ℕ) (key : List ℕ) → (Writes begun version key → ⊥) → serial begun (suc version) key ≡ serial begun version key
  serial-unwritten version key none = by (begun version) refl
    where
      by : (there : Option (List Part)) → begun version ≡ there → executed_at there (serial begun version) key ≡ serial begun version key
      by None begun_is = refl
      by (Some transaction) begun_is = of (functor_of transaction key) refl
        where
          of : (found : Option Placeholder) → functor_of transaction key ≡ found → exec (serial begun version) transaction key ≡ serial begun version key
          of None is = exec-keeps-others (serial begun version) transaction key is
          of (Some functor) is = absurd (none (record { transaction = transaction; functor = functor; begun_is = begun_is; functor_is = is }))

  -- versions that do not write the key leave it
  pub serial-unwritten-since : (since number : ℕ) (key : List ℕ) → since ≤ number →
      ((version : ℕ) → since ≤ version → version < number → Writes begun version key → ⊥) → serial begun number key ≡ serial begun since key
  serial-unwritten-since since zero key le none = let is : since ≡ zero = omega arith in rw is refl
  serial-unwritten-since since (suc number) key le none = by (since == suc number) refl
      (λ less. serial-unwritten-since since number key less (λ version low high. none version low (omega arith)))
    where
      by : (same : Bool) → (since == suc number) ≡ same → (since ≤ number → serial begun number key ≡ serial begun since key) → serial begun (suc number) key ≡ serial begun since key
      by true same rest = let is : since ≡ suc number = grind (arith, common_steps) in rw is refl
      by false same rest =
          let less : since ≤ number = grind (arith, common_steps) in
          serial-unwritten number key (none number less (omega arith)) ∙ rest less

  -- ---- values just below a number

  -- over a base that is the serial map just below `from`, values that are sound, and complete from there up to a number, are just below it the serial map
  pub upto-is-serial : (from number : ℕ) (base : Map) (values : List Valued) → ((key : List ℕ) → base key ≡ serial begun from key) →
      Sound begun values → ((value : Valued) → Among value values → from ≤ value.version) →
      Complete begun values from number → from ≤ number → (key : List ℕ) → upto number base values key ≡ serial begun number key
  upto-is-serial from number base values base_is sound above complete le key = by (latest key number values) (latest-is-latest key number values)
    where
      by : (found : Option Valued) → IsLatest key number values found → value_or (base key) found ≡ serial begun number key
      by None none =
          base_is key ∙ sym (serial-unwritten-since from number key le (λ version low high writes.
          let has = complete version key low high writes in none has.found has.within (record { key_is = has.key_is; less = rw has.version_is high })))
      by (Some value) best =
          let right = sound value best.within in
          let low = above value best.within in
          let last = serial-unwritten-since (suc value.version) number key (best.fits.less) (λ version after high writes.
          let has = complete version key (omega arith) high writes in
          let most = best.most has.found has.within (record { key_is = has.key_is; less = rw has.version_is high }) in
          let is = has.version_is in omega arith) in
          right.value_is ∙ ap (λ one. serial begun (suc value.version) one) best.fits.key_is ∙ sym last

  -- values that are sound, and complete up to a number, are just below it the serial map
  pub just_below-is-serial : (number : ℕ) (values : List Valued) → Sound begun values → Complete begun values 0 number → (key : List ℕ) → just_below number values key ≡ serial begun number key
  just_below-is-serial number values sound complete key = upto-is-serial 0 number empty values (λ any. refl) sound (λ value among. omega arith) complete (omega arith) key

  -- lists that are sound are sound together
  pub sound-together : (front back : List Valued) → Sound begun front → Sound begun back → Sound begun (front ++ back)
  sound-together front back here there value among = by (among-either value front back among)
    where
      by : Among value front ⊎ Among value back → Right begun value
      by (inl in_front) = here value in_front
      by (inr in_back) = there value in_back

  -- ---- values of items

  -- the value of an item on the serial map just below its version is right
  pub valued-right : (item : Item) (old : Map) → ((key : List ℕ) → old key ≡ serial begun item.version key) → Fits begun item → Right begun (valued old item)
  valued-right item old old_is fits = record {
    writes = record { transaction = fits.transaction; functor = item.functor; begun_is = fits.begun_is; functor_is = fits.functor_is };
    value_is =
        let below : old ≡ serial begun item.version = (λ i key. old_is key i) in
        let whole = apply-is-exec (serial begun item.version) fits.transaction item.key item.functor fits.functor_is in
        ap (λ one. apply item.functor (map one (reads item.functor))) below ∙ whole ∙ ap (λ there. executed_at there (serial begun item.version) item.key) (sym fits.begun_is);
  }

  evaluated-has : (base : Map) (items : List Item) (version : ℕ) (key : List ℕ) (item : Item) → Among item items →
      item.version ≡ version → item.key ≡ key → HasValue (evaluated base items) version key
  evaluated-has base [] version key item among version_is key_is = absurd among
  evaluated-has base (first ∷ older) version key item (inl is) version_is key_is = record {
    found = valued (upto first.version base (evaluated base older)) first;
    within = inl refl;
    version_is = ap (λ one. one.version) (sym is) ∙ version_is;
    key_is = ap (λ one. one.key) (sym is) ∙ key_is;
  }
  evaluated-has base (first ∷ older) version key item (inr rest) version_is key_is =
      let has = evaluated-has base older version key item rest version_is key_is in
      record { found = has.found; within = inr has.within; version_is = has.version_is; key_is = has.key_is }

  -- where each write of a window has its item, each has its value
  pub evaluated-complete : (base : Map) (items : List Item) (from below : ℕ) → Covers begun items from below → Complete begun (evaluated base items) from below
  evaluated-complete base items from below covers version key low high writes =
      let has = covers version key low high writes in evaluated-has base items version key has.found has.within has.version_is has.key_is

  covers-older : (item : Item) (older : List Item) (from below : ℕ) → item.version ≤ below → Covers begun (item ∷ older) from below → Covers begun older from item.version
  covers-older item older from below le covers version key low high writes = let has = covers version key low (omega arith) writes in by has.found has.version_is has.key_is has.within
    where
      by : (found : Item) → found.version ≡ version → found.key ≡ key → (found ≡ item) ⊎ Among found older → HasItem older version key
      by found version_is key_is (inl is) = let same : found.version ≡ item.version = ap (λ one. one.version) is in absurd (omega arith)
      by found version_is key_is (inr rest) = record { found = found; within = rest; version_is = version_is; key_is = key_is }

  -- the values of the items of a window over the serial map just below it are right
  pub evaluated-right : (base : Map) (from below : ℕ) (items : List Item) → ((key : List ℕ) → base key ≡ serial begun from key) → Descends (suc below) items →
      ((item : Item) → Among item items → (from ≤ item.version) × Fits begun item) → Covers begun items from below → Sound begun (evaluated base items)
  evaluated-right base from below [] base_is down fits covers = λ value among. absurd among
  evaluated-right base from below (item ∷ older) base_is down fits covers =
      let le : item.version ≤ below = let less = down.0 in omega arith in
      let less = covers-older item older from below le covers in
      let rest = evaluated-right base from item.version older base_is down.1 (λ one among. fits one (inr among)) less in
      let here = fits item (inl refl) in
      let above = evaluated-from base older from (λ one among. (fits one (inr among)).0) in
      let old_is = upto-is-serial from item.version base (evaluated base older) base_is rest above (evaluated-complete base older from item.version less) here.0 in
      let first = valued-right item (upto item.version base (evaluated base older)) old_is here.1 in
      λ value among. by rest first value among
    where
      by : Sound begun (evaluated base older) → Right begun (valued (upto item.version base (evaluated base older)) item) →
          (value : Valued) → (value ≡ valued (upto item.version base (evaluated base older)) item) ⊎ Among value (evaluated base older) → Right begun value
      by rest first value (inl is) = subst (λ one. Right begun one) (sym is) first
      by rest first value (inr among) = rest value among

  -- the law of windows: over the serial map just below it, the values of a window are those of the serial map
  pub window-is-serial : (base : Map) (from below : ℕ) (items : List Item) → ((key : List ℕ) → base key ≡ serial begun from key) → Descends (suc below) items →
      ((item : Item) → Among item items → (from ≤ item.version) × Fits begun item) → Covers begun items from below →
      (number : ℕ) (key : List ℕ) → from ≤ number → number ≤ below → upto number base (evaluated base items) key ≡ serial begun number key
  window-is-serial base from below items base_is down fits covers number key low high =
      upto-is-serial from number base (evaluated base items) base_is (evaluated-right base from below items base_is down fits covers)
      (evaluated-from base items from (λ one among. (fits one among).0))
      (λ version written above less writes. evaluated-complete base items from below covers version written above (omega arith) writes) low key
