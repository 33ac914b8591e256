-- The variables of a production one after the other, and where each occurs first. Assumes nothing.
use Rattle.std.proofs.Common.{◌≡◌, ℕ, zero, suc, ◌+◌, ◌<◌, Bool, true, false, cond, not, ◌&&◌, eqb, leb, List, [], ◌∷◌, ◌++◌, length, get_or, is_some, Some, None, Option, sym, refl, ap, ◌∙◌, subst, arith, eq-eqb, eqb-true, leb-false, ltb-false}
use borrow.Author.Tests.{lt-leb, not-false}
use Rattle.std.proofs.lemmas.Slice.Eq.{bytes_eq-Decides}
use Rattle.std.proofs.lemmas.List.{length_push}
use Rattle.std.proofs.lemmas.Bool.{or_parts, or_from, cond-true, cond-false, not_from_true}
use Rattle.std.specs.List.{find, filter, position_or_len, slice_get}
use Rattle.std.specs.Option.{option_or}
use Rattle.std.proofs.lemmas.List.Folds.{find-append, find_at}
use Rattle.std.proofs.lemmas.Iterator.Adapters.{position_from-zero}
use Rattle.std.proofs.lemmas.Option.{cond_some, slice_get-get_or, slice_get_past}
use Rattle.std.proofs.lemmas.List.Elements.{filter_agree}
use Rattle.std.specs.Str.{bytes_eq}
use Rattle.values.specs.Firsts.{first_from}
use Rattle.values.specs.Spelling.{nameable}
use Rattle.languages.specs.Refusals.{wrong_variable, over_limit}
use Rattle.productions.specs.Sofar.{Met, nobody, first_met, strayed, met_fault_among, unbound_among}
use Rattle.productions.specs.Kept.{Every, Found, Occurrence, first_of, without, variables_in, MetRightly}
use Rattle.productions.proofs.Faults.{no_fault, no_lack}
use Rattle.productions.proofs.Bound.{met-place}
use Rattle.productions.proofs.Owing.{Room, Mets, met_all, Usable, Iff}

-- what is so of each
pub every_map : {X : Type 0} {P Q : X → Type 0} (xs : List X) → ((x : X) → P x → Q x) → Every P xs → Every Q xs
every_map [] f h = tt
every_map (x ∷ xs) f h = (f x h.0, every_map xs f h.1)

-- ---- the variables that were met

-- a variable as it was met
abbrev met_at : List Met → List ℕ → Option Met
met_at vs w = find (λ v. bytes_eq v.word w) vs

-- one that is found, counted from n
pub first-is : (vs : List Met) (w : List ℕ) (n i : ℕ) → first_from (λ v. bytes_eq v.word w) n vs ≡ Some i → (k : ℕ) × (i ≡ n + k) × (met_at vs w ≡ Some (get_or vs k nobody))
first-is [] w n i = λ e. absurd cc
first-is (v ∷ vs) w n i = go (bytes_eq v.word w) (first-is vs w (n + 1) i)
  where
    go : (b : Bool) → (first_from (λ x. bytes_eq x.word w) (n + 1) vs ≡ Some i → (k : ℕ) × (i ≡ n + 1 + k) × (met_at vs w ≡ Some (get_or vs k nobody))) → cond b (Some n) (first_from (λ x. bytes_eq x.word w) (n + 1) vs) ≡ Some i → (k : ℕ) × (i ≡ n + k) × (cond b (Some v) (met_at vs w) ≡ Some (get_or (v ∷ vs) k nobody))
    go true f e = let q : n ≡ i = cc in (0, omega arith, refl)
    go false f e = let g = f e in (suc g.0, omega (arith, g.1), g.2)

-- and one that is not
pub first-none : (vs : List Met) (w : List ℕ) (n : ℕ) → first_from (λ v. bytes_eq v.word w) n vs ≡ None → met_at vs w ≡ None
first-none [] w n = λ e. refl
first-none (v ∷ vs) w n = go (bytes_eq v.word w) (first-none vs w (n + 1))
  where
    go : (b : Bool) → (first_from (λ x. bytes_eq x.word w) (n + 1) vs ≡ None → met_at vs w ≡ None) → cond b (Some n) (first_from (λ x. bytes_eq x.word w) (n + 1) vs) ≡ None → cond b (Some v) (met_at vs w) ≡ None
    go true f e = absurd cc
    go false f e = f e

-- one that has a number, and one that has none
met-is : (vs : List Met) (w : List ℕ) (i : ℕ) → first_met vs w ≡ Some i → met_at vs w ≡ Some (get_or vs i nobody)
met-is vs w i e =
    let p : Met → Bool = λ v. bytes_eq v.word w in
    find_at p vs ∙ ap (slice_get vs) (cond_some _ (position_or_len p vs) i (position_from-zero p vs ∙ e)).1 ∙ slice_get-get_or vs i nobody (met-place vs w i e)

met-none : (vs : List Met) (w : List ℕ) → first_met vs w ≡ None → met_at vs w ≡ None
met-none vs w e =
    let p : Met → Bool = λ v. bytes_eq v.word w in
    find_at p vs ∙ slice_get_past vs (position_or_len p vs) (ltb-false _ _ (no_fault _ (position_or_len p vs) None (position_from-zero p vs ∙ e)).0)

met-more : (vs : List Met) (m : Met) (w : List ℕ) → met_at (vs ++ m ∷ []) w ≡ option_or (met_at vs w) (cond (bytes_eq m.word w) (Some m) None)
met-more vs m w = find-append (λ v. bytes_eq v.word w) vs (m ∷ [])

-- ---- the first occurrence, among the variables that were met or else behind them

-- a variable that was met, where it may be met first
abbrev occurred : Met → Occurrence
occurred v = record { word = v.word; binds = true; condition = v.condition; negated = v.negated }

abbrev late : Option Met → Option Occurrence → Option Occurrence
late None o = o
late (Some v) o = Some (occurred v)

-- how a variable is met
abbrev met_as : Occurrence → Met
met_as o = record { word = o.word; negated = o.negated; condition = o.condition }

late_old : (vs : List Met) (o : Occurrence) (os : List Occurrence) (v : Met) (w : List ℕ) → met_at vs o.word ≡ Some v → late (met_at vs w) (first_of (o ∷ os) w) ≡ late (met_at vs w) (first_of os w)
late_old vs o os v w q = go (bytes_eq o.word w) refl
  where
    go : (b : Bool) → bytes_eq o.word w ≡ b → late (met_at vs w) (cond b (Some o) (first_of os w)) ≡ late (met_at vs w) (first_of os w)
    go true e =
        let same : o.word ≡ w = (bytes_eq-Decides o.word w).0 e in
        let at : met_at vs w ≡ Some v = ap (met_at vs) (sym same) ∙ q in
        ap (λ a. late a (Some o)) at ∙ sym (ap (λ a. late a (first_of os w)) at)
    go false e = refl

late_new : (vs : List Met) (o : Occurrence) (os : List Occurrence) (w : List ℕ) → late (met_at (vs ++ met_as o ∷ []) w) (first_of os w) ≡ late (met_at vs w) (cond (bytes_eq o.word w) (Some (occurred (met_as o))) (first_of os w))
late_new vs o os w = ap (λ a. late a (first_of os w)) (met-more vs (met_as o) w) ∙ go (met_at vs w) (bytes_eq o.word w)
  where
    go : (a : Option Met) (b : Bool) → late (option_or a (cond b (Some (met_as o)) None)) (first_of os w) ≡ late a (cond b (Some (occurred (met_as o))) (first_of os w))
    go (Some v) b = refl
    go None true = refl
    go None false = refl

late_bound : (vs : List Met) (o : Occurrence) (os : List Occurrence) (w : List ℕ) → o.binds ≡ true → late (met_at (vs ++ met_as o ∷ []) w) (first_of os w) ≡ late (met_at vs w) (first_of (o ∷ os) w)
late_bound vs o os w e =
    late_new vs o os w
    ∙ ap (λ b. late (met_at vs w) (cond (bytes_eq o.word w) (Some (record { word = o.word; binds = b; condition = o.condition; negated = o.negated })) (first_of os w))) (sym e)

-- one that was not met before is its own first
late_self : (vs : List Met) (o : Occurrence) (os : List Occurrence) → met_at vs o.word ≡ None → late (met_at vs o.word) (first_of (o ∷ os) o.word) ≡ Some o
late_self vs o os q = ap (λ a. late a (first_of (o ∷ os) o.word)) q ∙ cond-true (bytes_eq o.word o.word) _ _ ((bytes_eq-Decides o.word o.word).1 refl)

-- ---- how many there are

filter-without : (t : List ℕ → Bool) (w : List ℕ) (ws : List (List ℕ)) → filter t (without w ws) ≡ filter (λ x. not (bytes_eq w x) && t x) ws
filter-without t w [] = refl
filter-without t w (v ∷ ws) = go (bytes_eq w v) (filter-without t w ws)
  where
    go : (b : Bool) → filter t (without w ws) ≡ filter (λ x. not (bytes_eq w x) && t x) ws → filter t (cond b (without w ws) (v ∷ without w ws)) ≡ cond (not b && t v) (v ∷ filter (λ x. not (bytes_eq w x) && t x) ws) (filter (λ x. not (bytes_eq w x) && t x) ws)
    go true e = e
    go false e = ap (λ l. cond (t v) (v ∷ l) l) e

filter-everything : (ws : List (List ℕ)) → filter (λ x. true) ws ≡ ws
filter-everything [] = refl
filter-everything (w ∷ ws) = ap (λ l. w ∷ l) (filter-everything ws)

-- a variable that was not met
abbrev new : List Met → List ℕ → Bool
new vs x = not (is_some (met_at vs x))

-- the variables of a row that were not met before
abbrev fresh : List Met → List Occurrence → List (List ℕ)
fresh vs os = filter (new vs) (variables_in os)

fresh_old : (vs : List Met) (o : Occurrence) (os : List Occurrence) (v : Met) → met_at vs o.word ≡ Some v → fresh vs (o ∷ os) ≡ fresh vs os
fresh_old vs o os v q =
    cond-false (new vs o.word) _ _ (ap (λ a. not (is_some a)) q)
    ∙ filter-without (new vs) o.word (variables_in os)
    ∙ filter_agree (λ x. not (bytes_eq o.word x) && new vs x) (new vs) (λ x. go x (bytes_eq o.word x) refl) (variables_in os)
  where
    go : (x : List ℕ) (b : Bool) → bytes_eq o.word x ≡ b → (not b && new vs x) ≡ new vs x
    go x true e = sym (ap (λ a. not (is_some a)) (ap (met_at vs) (sym ((bytes_eq-Decides o.word x).0 e)) ∙ q))
    go x false e = refl

fresh_new : (vs : List Met) (o : Occurrence) (os : List Occurrence) → met_at vs o.word ≡ None → fresh vs (o ∷ os) ≡ o.word ∷ fresh (vs ++ met_as o ∷ []) os
fresh_new vs o os q =
    cond-true (new vs o.word) _ _ (ap (λ a. not (is_some a)) q)
    ∙ ap (λ l. o.word ∷ l)
    (filter-without (new vs) o.word (variables_in os)
    ∙ filter_agree (λ x. not (bytes_eq o.word x) && new vs x) (new (vs ++ met_as o ∷ [])) (λ x. go (met_at vs x) (bytes_eq o.word x) ∙ sym (ap (λ a. not (is_some a)) (met-more vs (met_as o) x))) (variables_in os))
  where
    go : (a : Option Met) (b : Bool) → (not b && not (is_some a)) ≡ not (is_some (option_or a (cond b (Some (met_as o)) None)))
    go (Some v) true = refl
    go (Some v) false = refl
    go None true = refl
    go None false = refl

-- ---- a row of variables

-- a row is right behind the variables that were met: each is met rightly, and the new ones are few and not too long
pub record Right (vs : List Met) (os : List Occurrence) : Type 0 where
  pub met : Every (λ o. Found (MetRightly o) (late (met_at vs o.word) (first_of os o.word))) os
  pub few : Room 16 (length vs) (length (fresh vs os))
  pub long : Every (λ w. nameable w ≡ true) (fresh vs os)

not_strayed : (v : Met) (n : ℕ) → strayed v n ≡ false → v.negated ≡ true → n ≡ v.condition
not_strayed v n e h =
    let f : not (eqb v.condition n) ≡ false = sym (ap (λ b. b && not (eqb v.condition n)) h) ∙ e in
    sym (eqb-true v.condition n (not-false _ f))

near_by : (v : Met) (n : ℕ) → (v.negated ≡ true → n ≡ v.condition) → strayed v n ≡ false
near_by v n f = go v.negated refl
  where
    go : (b : Bool) → v.negated ≡ b → (b && not (eqb v.condition n)) ≡ false
    go true e = not_from_true _ (eq-eqb v.condition n (sym (f e)))
    go false e = refl

pub right : (os : List Occurrence) (vs : List Met) → Mets vs os → Right vs os
right [] vs h = record { met = tt; few = λ j l. absurd (omega arith); long = tt }
right (o ∷ os) vs h = go (first_met vs o.word) refl h.0 h.1 (λ us. right os us)
  where
    go : (a : Option ℕ) → first_met vs o.word ≡ a → met_fault_among vs o.condition o.binds o.word a ≡ None → Mets (cond (is_some a) vs (vs ++ met_as o ∷ [])) os → ((us : List Met) → Mets us os → Right us os) → Right vs (o ∷ os)
    go None e f g again =
        let q = met-none vs o.word e in
        let b = no_lack o.binds wrong_variable _ f in
        let p = or_parts (leb 16 (length vs)) (not (nameable o.word)) (no_fault _ over_limit None b.1).0 in
        let room = leb-false 16 (length vs) p.0 in
        let r = again (vs ++ met_as o ∷ []) g in
        let long = length_push vs (met_as o) in
        let k = fresh_new vs o os q in
        record {
          met = (
            subst (Found (MetRightly o)) (sym (late_self vs o os q)) (record { binds = b.0; near = λ _. refl }),
            every_map os (λ x y. subst (Found (MetRightly x)) (late_bound vs o os x.word b.0) y) r.met,
          );
          few = subst (λ l. Room 16 (length vs) (length l)) (sym k) (λ j l. more j l room long r.few);
          long = subst (Every (λ w. nameable w ≡ true)) (sym k) (not-false _ p.1, r.long);
        }
      where
        more : (j : ℕ) → j < suc (length (fresh (vs ++ met_as o ∷ []) os)) → length vs < 16 → length (vs ++ met_as o ∷ []) ≡ length vs + 1 → Room 16 (length (vs ++ met_as o ∷ [])) (length (fresh (vs ++ met_as o ∷ []) os)) → length vs + j < 16
        more zero l room long r = omega arith
        more (suc j) l room long r = let x = r j (omega arith) in omega arith
    go (Some i) e f g again =
        let q = met-is vs o.word i e in
        let near = (no_fault (strayed (get_or vs i nobody) o.condition) wrong_variable None f).0 in
        let r = again vs g in
        let k = fresh_old vs o os (get_or vs i nobody) q in
        record {
          met = (
            subst (Found (MetRightly o)) (sym (ap (λ a. late a (first_of (o ∷ os) o.word)) q)) (record { binds = refl; near = λ n. not_strayed (get_or vs i nobody) o.condition near n }),
            every_map os (λ x y. subst (Found (MetRightly x)) (sym (late_old vs o os (get_or vs i nobody) x.word q)) y) r.met,
          );
          few = subst (λ l. Room 16 (length vs) (length l)) (sym k) r.few;
          long = subst (Every (λ w. nameable w ≡ true)) (sym k) r.long;
        }

pub mets : (os : List Occurrence) (vs : List Met) → Right vs os → Mets vs os
mets [] vs r = tt
mets (o ∷ os) vs r = go (first_met vs o.word) refl (λ us. mets os us)
  where
    go : (a : Option ℕ) → first_met vs o.word ≡ a → ((us : List Met) → Right us os → Mets us os) → (met_fault_among vs o.condition o.binds o.word a ≡ None) × Mets (cond (is_some a) vs (vs ++ met_as o ∷ [])) os
    go None e again =
        let q = met-none vs o.word e in
        let m : MetRightly o o = subst (Found (MetRightly o)) (late_self vs o os q) r.met.0 in
        let k = fresh_new vs o os q in
        let long = length_push vs (met_as o) in
        let few : Room 16 (length vs) (suc (length (fresh (vs ++ met_as o ∷ []) os))) = subst (λ l. Room 16 (length vs) (length l)) k r.few in
        let named : Every (λ w. nameable w ≡ true) (o.word ∷ fresh (vs ++ met_as o ∷ []) os) = subst (Every (λ w. nameable w ≡ true)) k r.long in
        let room : length vs < 16 = (let x = few 0 (omega arith) in omega arith) in (
          cond-true o.binds _ _ m.binds ∙ cond-false _ _ _ (or_from (leb 16 (length vs)) (not (nameable o.word)) (lt-leb 16 (length vs) room) (not_from_true _ named.0)),
          again (vs ++ met_as o ∷ [])
              (record {
                met = every_map os (λ x y. subst (Found (MetRightly x)) (sym (late_bound vs o os x.word m.binds)) y) r.met.1;
                few = λ j l. let x = few (j + 1) (omega arith) in omega arith;
                long = named.1;
              }),
        )
    go (Some i) e again =
        let q = met-is vs o.word i e in
        let m : MetRightly o (occurred (get_or vs i nobody)) = subst (Found (MetRightly o)) (ap (λ a. late a (first_of (o ∷ os) o.word)) q) r.met.0 in
        let k = fresh_old vs o os (get_or vs i nobody) q in (
          cond-false (strayed (get_or vs i nobody) o.condition) _ _ (near_by (get_or vs i nobody) o.condition m.near),
          again vs
              (record {
                met = every_map os (λ x y. subst (Found (MetRightly x)) (late_old vs o os (get_or vs i nobody) x.word q) y) r.met.1;
                few = subst (λ l. Room 16 (length vs) (length l)) k r.few;
                long = subst (Every (λ w. nameable w ≡ true)) k r.long;
              }),
        )

-- ---- a variable of an action

abbrev Positive : Option Occurrence → Type 0
Positive o = Found (λ m. m.negated ≡ false) o

-- whether it may be met first where it is says nothing of that
positive-as : (o : Occurrence) (a : Option Met) (b : Bool) (y : Option Occurrence) → Iff (Positive (late a (cond b (Some (occurred (met_as o))) y))) (Positive (late a (cond b (Some o) y)))
positive-as o (Some v) b y = record { to = λ h. h; back = λ h. h }
positive-as o None true y = record { to = λ h. h; back = λ h. h }
positive-as o None false y = record { to = λ h. h; back = λ h. h }

pub usable : (os : List Occurrence) (vs : List Met) (w : List ℕ) → Iff (Usable (met_all vs os) w) (Positive (late (met_at vs w) (first_of os w)))
usable [] vs w = go (first_met vs w) refl
  where
    go : (a : Option ℕ) → first_met vs w ≡ a → Iff (unbound_among vs a ≡ None) (Positive (late (met_at vs w) None))
    go None e =
        let q = met-none vs w e in
        record {
          to = λ h. let z : ◌≡◌ {A = ℕ} 0 1 = cc in absurd (omega arith);
          back = λ h. absurd (subst (λ a. Positive (late a None)) q h);
        }
    go (Some i) e =
        let q = met-is vs w i e in
        record {
          to = λ h. subst (λ a. Positive (late a None)) (sym q) (no_fault (get_or vs i nobody).negated wrong_variable None h).0;
          back = λ h. cond-false (get_or vs i nobody).negated _ _ (subst (λ a. Positive (late a None)) q h);
        }
usable (o ∷ os) vs w = go (first_met vs o.word) refl (λ us. usable os us w)
  where
    go : (a : Option ℕ) → first_met vs o.word ≡ a → ((us : List Met) → Iff (Usable (met_all us os) w) (Positive (late (met_at us w) (first_of os w)))) → Iff (Usable (met_all (cond (is_some a) vs (vs ++ met_as o ∷ [])) os) w) (Positive (late (met_at vs w) (first_of (o ∷ os) w)))
    go None e again =
        let i = again (vs ++ met_as o ∷ []) in
        let p = positive-as o (met_at vs w) (bytes_eq o.word w) (first_of os w) in
        let n = late_new vs o os w in
        record { to = λ h. p.to (subst Positive n (i.to h)); back = λ h. i.back (subst Positive (sym n) (p.back h)) }
    go (Some k) e again =
        let i = again vs in
        let n = late_old vs o os (get_or vs k nobody) w (met-is vs o.word k e) in
        record { to = λ h. subst Positive (sym n) (i.to h); back = λ h. i.back (subst Positive n h) }

-- ---- from the first variable on

pub record Rightly (os : List Occurrence) : Type 0 where
  pub met : Every (λ o. Found (MetRightly o) (first_of os o.word)) os
  pub few : Room 16 0 (length (variables_in os))
  pub long : Every (λ w. nameable w ≡ true) (variables_in os)

pub all_right : (os : List Occurrence) → Iff (Mets [] os) (Rightly os)
all_right os =
    let k : fresh [] os ≡ variables_in os = filter-everything (variables_in os) in
    record {
      to = λ h. let r = right os [] h in record { met = r.met; few = subst (λ l. Room 16 0 (length l)) k r.few; long = subst (Every (λ w. nameable w ≡ true)) k r.long };
      back = λ h. mets os [] (record { met = h.met; few = subst (λ l. Room 16 0 (length l)) (sym k) h.few; long = subst (Every (λ w. nameable w ≡ true)) (sym k) h.long });
    }

pub all_usable : (os : List Occurrence) (w : List ℕ) → Iff (Usable (met_all [] os) w) (Found (λ m. m.negated ≡ false) (first_of os w))
all_usable os w = usable os [] w
