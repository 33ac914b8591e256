-- A reader that goes from state to state reads just the forms of its language. Assumes nothing.
use Rattle.std.proofs.Common.{◌≡◌, ℕ, suc, ◌+◌, ◌<◌, ◌≤◌, ◌⊎◌, List, [], ◌∷◌, ◌++◌, length, Some, None, Option, sym, refl, ap, ◌∙◌, subst, inl, inr, zero-add, arith}
use Rattle.words.specs.Kinds.{Kind, symbol, illegal}
use Rattle.words.specs.Words.{Lexeme}
use Rattle.languages.specs.declared.refusal.Cause.{Cause}
use Rattle.languages.specs.declared.refusal.Cause.TheVariants.{IllegalWord, UnexpectedWord, WrongName, WrongVariable, NoSuchCondition, OverLimit}
use Rattle.languages.specs.Refusals.{Fault, wrong_name, wrong_variable, no_such_condition, over_limit, cause_of}
use Rattle.languages.specs.Senses.{sense}
use Rattle.languages.specs.Scripts.{Judged, judge, fine, Script, then', asks, judged_in, asked_by, Faultless}
use Rattle.languages.specs.Languages.{Spells, Takes, TakesNone, Viable, Begun, Faulty, Reason, Stands, Broken, OneAnswer}
use Rattle.languages.specs.Machines.{Step, onward, whole, fails, unless, Outcome, taken, stopped, on_step, run, place_of}

-- a word that some text may have
abbrev pub Legal : Kind → Type 0
Legal k = (w : List ℕ) → k ≡ illegal w → ⊥

pub legal_symbol : (w : List ℕ) → Legal (symbol w)
legal_symbol w v e = cc

-- words follow the judged ones up to the first that breaks a rule
abbrev pub halts : {E : Type 0} → Option Fault → List Lexeme → Outcome E → Outcome E
halts None ls o = o
halts (Some f) ls o = stopped (cause_of f) ls

abbrev pub verdict : {E : Type 0} → List Judged → List Lexeme → Outcome E → Outcome E
verdict [] ls o = o
verdict (j ∷ js) [] o = o
verdict (j ∷ js) (l ∷ ls) o = halts j.fault (l ∷ ls) (verdict js ls o)

-- one word more that breaks no rule
pub clear-more : (js : List Judged) (j : Judged) → Faultless js → j.fault ≡ None → Faultless (js ++ j ∷ [])
clear-more [] j h e = (e, tt)
clear-more (i ∷ js) j h e = (h.0, clear-more js j h.1 e)

-- words that break no rule come to the end
verdict_clear : {E : Type 0} (js : List Judged) (ls after : List Lexeme) (o : Outcome E) → Faultless js → Spells js ls after → verdict js ls o ≡ o
verdict_clear [] ls after o c h = refl
verdict_clear (j ∷ js) [] after o c h = absurd h
verdict_clear (j ∷ js) (l ∷ ls) after o c h = ap (λ f. halts f (l ∷ ls) (verdict js ls o)) c.0 ∙ verdict_clear js ls after o c.1 h.1

-- no word of a form is one that cannot continue it
pub never_unexpected : {E : Type 0} (js : List Judged) (ls : List Lexeme) (e : E) (after back : List Lexeme) → verdict js ls (taken e after) ≡ stopped UnexpectedWord back → ⊥
never_unexpected [] ls e after back h = cc
never_unexpected (j ∷ js) [] e after back h = cc
never_unexpected {E = E} (j ∷ js) (l ∷ ls) e after back h = go j.fault (never_unexpected js ls e after back) h
  where
    go : (o : Option Fault) → (verdict js ls (taken e after) ≡ stopped UnexpectedWord back → ⊥) → halts o (l ∷ ls) (verdict js ls (taken e after)) ≡ stopped UnexpectedWord back → ⊥
    go None f g = f g
    go (Some wrong_name) f g = cc
    go (Some wrong_variable) f g = cc
    go (Some no_such_condition) f g = cc
    go (Some over_limit) f g = cc

-- words that break no rule are passed
pub verdict_skip : {E : Type 0} (js is : List Judged) (front ls : List Lexeme) (o : Outcome E) → Faultless js → Spells js front [] → verdict (js ++ is) (front ++ ls) o ≡ verdict is ls o
verdict_skip [] is [] ls o f h = refl
verdict_skip [] is (l ∷ front) ls o f h = absurd cc
verdict_skip (j ∷ js) is [] ls o f h = absurd h
verdict_skip (j ∷ js) is (l ∷ front) ls o f h = ap (λ x. halts x (l ∷ (front ++ ls)) (verdict (js ++ is) (front ++ ls) o)) f.0 ∙ verdict_skip js is front ls o f.1 h.1

-- the words that are left are among those that there were
pub verdict_within : {E : Type 0} (js : List Judged) (ls : List Lexeme) (e : E) (after : List Lexeme) (c : Cause) (back : List Lexeme) → verdict js ls (taken e after) ≡ stopped c back → length back ≤ length ls
verdict_within [] ls e after c back h = absurd cc
verdict_within (j ∷ js) [] e after c back h = absurd cc
verdict_within (j ∷ js) (l ∷ ls) e after c back h = go j.fault (verdict_within js ls e after c back) h
  where
    go : (o : Option Fault) → (verdict js ls (taken e after) ≡ stopped c back → length back ≤ length ls) → halts o (l ∷ ls) (verdict js ls (taken e after)) ≡ stopped c back → length back ≤ suc (length ls)
    go None f g = let h = f g in omega arith
    go (Some x) f g = let same : l ∷ ls ≡ back = cc in let e = ap length same in omega arith

abbrev Sensed : List Judged → Type 0
Sensed [] = Unit {0}
Sensed (j ∷ js) = (sense j.word ≡ j.word) × Sensed js

-- one row behind another
pub sensed_append : (xs ys : List Judged) → Sensed xs → Sensed ys → Sensed (xs ++ ys)
sensed_append [] ys g h = h
sensed_append (x ∷ xs) ys g h = (g.0, sensed_append xs ys g.1 h)

-- words for the judged ones, standing anywhere
abbrev words_for : List Judged → List Lexeme
words_for [] = []
words_for (j ∷ js) = record { place = 0; kind = j.word } ∷ words_for js

spells_for : (js : List Judged) → Sensed js → Spells js (words_for js) []
spells_for [] h = refl
spells_for (j ∷ js) h = (h.0, spells_for js h.1)

-- a step that is refused only where the word breaks a rule is never one for a word that cannot continue
unless-expected : {S E : Type 0} (f : Option Fault) (x : Step S E) → (x ≡ fails UnexpectedWord → ⊥) → unless f x ≡ fails UnexpectedWord → ⊥
unless-expected None x n e = n e
unless-expected (Some wrong_name) x n e = cc
unless-expected (Some wrong_variable) x n e = cc
unless-expected (Some no_such_condition) x n e = cc
unless-expected (Some over_limit) x n e = cc

-- ---- a machine, and for each state what may be left of a form there

module _ {S E : Type 0} (turned : S → Kind → Step S E) (R : S → Type 0) (script : (s : S) → R s → Script E) where
  -- a word ends the form, or leads to a state with the rest of it, unless it breaks a rule
  abbrev pub Way : S → Judged → Script E → Type 0
  Way s j y =
      ((e : E) × (y ≡ asks e) × (turned s j.word ≡ unless j.fault (whole e)))
      ⊎ ((t : S) × (r : R t) × (y ≡ script t r) × (turned s j.word ≡ unless j.fault (onward t)))

  -- what is left begins with a word that the state takes
  abbrev pub View : S → Script E → Type 0
  View s x = (j : Judged) × (y : Script E) × (x ≡ then' j y) × (sense j.word ≡ j.word) × Way s j y

  pub ends : (s : S) (j : Judged) (e : E) → sense j.word ≡ j.word → turned s j.word ≡ unless j.fault (whole e) → View s (then' j (asks e))
  ends s j e p q = (j, asks e, refl, p, inl (e, refl, q))

  pub goes : (s : S) (j : Judged) (t : S) (r : R t) → sense j.word ≡ j.word → turned s j.word ≡ unless j.fault (onward t) → View s (then' j (script t r))
  goes s j t r p q = (j, script t r, refl, p, inr (t, r, refl, q))

  -- something left begins with the word k, which breaks a rule
  abbrev pub Breaks : S → Kind → Fault → Type 0
  Breaks s k fault = (q : R s) × (f : Option Fault) × (y : Script E) × (script s q ≡ then' (judge k f) y) × (f ≡ Some fault)

  -- what a word does, by the step that is made
  abbrev pub Next : S → Kind → Step S E → Type 0
  Next s k (onward t) = (f : Option Fault) × (f ≡ None) × ((r : R t) → (q : R s) × (script s q ≡ then' (judge k f) (script t r)))
  Next s k (whole e) = (q : R s) × (script s q ≡ then' (fine k) (asks e))
  Next s k (fails IllegalWord) = (w : List ℕ) × (k ≡ illegal w)
  Next s k (fails UnexpectedWord) = Legal k
  Next s k (fails WrongName) = Breaks s k wrong_name
  Next s k (fails WrongVariable) = Breaks s k wrong_variable
  Next s k (fails NoSuchCondition) = Breaks s k no_such_condition
  Next s k (fails OverLimit) = Breaks s k over_limit

  breaking : (s : S) (k : Kind) (f : Fault) → Breaks s k f → Next s k (fails (cause_of f))
  breaking s k wrong_name b = b
  breaking s k wrong_variable b = b
  breaking s k no_such_condition b = b
  breaking s k over_limit b = b

  -- a word that leads on unless it breaks a rule
  pub leads : (some : (s : S) → R s) (s t : S) (k : Kind) (f : Option Fault) → ((r : R t) → (q : R s) × (script s q ≡ then' (judge k f) (script t r))) → Next s k (unless f (onward t))
  leads some s t k None h = (None, refl, h)
  leads some s t k (Some x) h = breaking s k x ((h (some t)).0, Some x, script t (some t), (h (some t)).1, refl)

  module _ (some : (s : S) → R s) (view : (s : S) (r : R s) → View s (script s r)) (next : (s : S) (k : Kind) → Next s (sense k) (turned s (sense k))) (bad : (s : S) (w : List ℕ) → turned s (illegal w) ≡ fails IllegalWord) where
    -- ---- words that spell a form are read as it says

    words-run : (ls : List Lexeme) (s : S) (x : Script E) (after : List Lexeme) → View s x → Spells (judged_in x) ls after → run turned s ls ≡ verdict (judged_in x) ls (taken (asked_by x) after)
    words-run [] s x after v h = absurd (subst (λ z. Spells (judged_in z) [] after) v.2 h)
    words-run (l ∷ ls) s x after v h =
        let j = v.0 in
        let y = v.1 in
        let g = subst (λ z. Spells (judged_in z) (l ∷ ls) after) v.2 h in
        ap (λ k. on_step (turned s k) (λ t. run turned t ls) (λ e. taken e ls) (λ c. stopped c (l ∷ ls))) g.0
        ∙ go v.4 g.1 (λ t r i. words-run ls t (script t r) after (view t r) i)
        ∙ sym (ap (λ z. verdict (judged_in z) (l ∷ ls) (taken (asked_by z) after)) v.2)
      where
        go : Way s v.0 v.1 → Spells (judged_in v.1) ls after →
            ((t : S) (r : R t) → Spells (judged_in (script t r)) ls after → run turned t ls ≡ verdict (judged_in (script t r)) ls (taken (asked_by (script t r)) after)) →
            on_step (turned s v.0.word) (λ t. run turned t ls) (λ e. taken e ls) (λ c. stopped c (l ∷ ls)) ≡ halts v.0.fault (l ∷ ls) (verdict (judged_in v.1) ls (taken (asked_by v.1) after))
        go (inl w) i f =
            ap (λ t. on_step t (λ t. run turned t ls) (λ e. taken e ls) (λ c. stopped c (l ∷ ls))) w.2
            ∙ last v.0.fault
            ∙ sym (ap (λ z. halts v.0.fault (l ∷ ls) (verdict (judged_in z) ls (taken (asked_by z) after))) w.1)
          where
            none : ls ≡ after
            none = subst (λ z. Spells (judged_in z) ls after) w.1 i

            last : (f : Option Fault) → on_step (unless f (whole w.0)) (λ t. run turned t ls) (λ e. taken e ls) (λ c. stopped c (l ∷ ls)) ≡ halts f (l ∷ ls) (taken w.0 after)
            last None = ap (taken w.0) none
            last (Some x) = refl
        go (inr w) i f =
            ap (λ t. on_step t (λ t. run turned t ls) (λ e. taken e ls) (λ c. stopped c (l ∷ ls))) w.3
            ∙ on v.0.fault
            ∙ sym (ap (λ z. halts v.0.fault (l ∷ ls) (verdict (judged_in z) ls (taken (asked_by z) after))) w.2)
          where
            on : (o : Option Fault) → on_step (unless o (onward w.0)) (λ t. run turned t ls) (λ e. taken e ls) (λ c. stopped c (l ∷ ls)) ≡ halts o (l ∷ ls) (verdict (judged_in (script w.0 w.1)) ls (taken (asked_by (script w.0 w.1)) after))
            on None = f w.0 w.1 (subst (λ z. Spells (judged_in z) ls after) w.2 i)
            on (Some x) = refl

    pub takes_run : (s : S) (ls : List Lexeme) (e : E) (after : List Lexeme) → Takes (script s) ls e after → run turned s ls ≡ taken e after
    takes_run s ls e after t =
        words-run ls s (script s t.form) after (view s t.form) t.spelled
        ∙ verdict_clear (judged_in (script s t.form)) ls after _ t.clear t.spelled
        ∙ ap (λ x. taken x after) (sym t.asked)

    -- a reading that stopped took no form
    pub stopped_none : (s : S) (ls back : List Lexeme) (c : Cause) → run turned s ls ≡ stopped c back → TakesNone (script s) ls
    stopped_none s ls back c e form after spelled clear =
        let t = takes_run s ls (asked_by (script s form)) after (record { form = form; spelled = spelled; clear = clear; asked = refl }) in
        let both : taken (asked_by (script s form)) after ≡ stopped c back = sym t ∙ e in
        cc

    -- ---- what the outcome of a reading says of the words

    -- why a reading stopped before the words of back
    abbrev Why : S → List Lexeme → List Lexeme → Cause → Type 0
    Why s front [] c = c ≡ UnexpectedWord
    Why s front (l ∷ ls) c = Reason (script s) front l c

    -- where the reading of the words `all` stopped
    pub record Stopped (s : S) (all : List Lexeme) (c : Cause) (back : List Lexeme) : Type 0 where
      pub front : List Lexeme
      pub split : all ≡ front ++ back
      pub begun : Begun (script s) front
      pub why : Why s front back c

    abbrev pub Tells : S → List Lexeme → Outcome E → Type 0
    Tells s all (taken e after) = Takes (script s) all e after
    Tells s all (stopped c back) = Stopped s all c back

    -- nothing was read yet
    not_yet : (s : S) → Begun (script s) []
    not_yet s = record { form = some s; here = []; ahead = judged_in (script s (some s)); split = refl; spelled = refl; clear = tt }

    -- the word that a step is made for decides where it leads
    same_way : (s t : S) (l : Lexeme) (q : R s) (after : List Lexeme) (ls : List Lexeme) → turned s (sense l.kind) ≡ onward t → Spells (judged_in (script s q)) (l ∷ ls) after → (r : R t) × (f : Option Fault) × (f ≡ None) × (script s q ≡ then' (judge (sense l.kind) f) (script t r))
    same_way s t l q after ls e h = go (view s q)
      where
        go : View s (script s q) → (r : R t) × (f : Option Fault) × (f ≡ None) × (script s q ≡ then' (judge (sense l.kind) f) (script t r))
        go v = way v.4
          where
            word : sense l.kind ≡ v.0.word
            word = (subst (λ z. Spells (judged_in z) (l ∷ ls) after) v.2 h).0

            here : turned s v.0.word ≡ onward t
            here = ap (turned s) (sym word) ∙ e

            clear : (f : Option Fault) (x : Step S E) → unless f x ≡ onward t → (f ≡ None) × (x ≡ onward t)
            clear None x g = (refl, g)
            clear (Some f) x g = absurd cc

            way : Way s v.0 v.1 → (r : R t) × (f : Option Fault) × (f ≡ None) × (script s q ≡ then' (judge (sense l.kind) f) (script t r))
            way (inl w) =
                let g : whole w.0 ≡ onward t = (clear v.0.fault (whole w.0) (sym w.2 ∙ here)).1 in
                absurd cc
            way (inr w) =
                let c = clear v.0.fault (onward w.0) (sym w.3 ∙ here) in
                let g : onward w.0 ≡ onward t = c.1 in
                let is : w.0 ≡ t = cc in
                let made : (u : S) → w.0 ≡ u → (r : R u) × (v.1 ≡ script u r) = λ u i. subst (λ z. (r : R z) × (v.1 ≡ script z r)) i (w.1, w.2) in
                let m = made t is in
                (m.0, v.0.fault, c.0, v.2 ∙ ap (λ z. then' (judge z v.0.fault) v.1) (sym word) ∙ ap (then' (judge (sense l.kind) v.0.fault)) m.1)

    -- no form goes on with a word that the state does not expect
    hopeless : (s : S) (l : Lexeme) → turned s (sense l.kind) ≡ fails UnexpectedWord → Viable (script s) (l ∷ []) → ⊥
    hopeless s l e h = go (view s h.0)
      where
        go : View s (script s h.0) → ⊥
        go v =
            let g = subst (λ z. Spells (judged_in z) (l ∷ h.1) []) v.2 h.2 in
            way v.4 (ap (turned s) (sym g.0) ∙ e)
          where
            way : Way s v.0 v.1 → turned s v.0.word ≡ fails UnexpectedWord → ⊥
            way (inl w) here = unless-expected v.0.fault (whole w.0) (λ e. cc) (sym w.2 ∙ here)
            way (inr w) here = unless-expected v.0.fault (onward w.0) (λ e. cc) (sym w.3 ∙ here)

    -- a word before what was read from the next state on
    module _ (s t : S) (l : Lexeme) (e : turned s (sense l.kind) ≡ onward t) (f : Option Fault) (none : f ≡ None) (before : (r : R t) → (q : R s) × (script s q ≡ then' (judge (sense l.kind) f) (script t r))) where
      pub first-takes : (ls : List Lexeme) (x : E) (after : List Lexeme) → Takes (script t) ls x after → Takes (script s) (l ∷ ls) x after
      first-takes ls x after h =
          let b = before h.form in
          record {
            form = b.0;
            spelled = subst (λ z. Spells (judged_in z) (l ∷ ls) after) (sym b.1) (refl, h.spelled);
            clear = subst (λ z. Faultless (judged_in z)) (sym b.1) (none, h.clear);
            asked = h.asked ∙ sym (ap asked_by b.1);
          }

      first-begun : (front : List Lexeme) → Begun (script t) front → Begun (script s) (l ∷ front)
      first-begun front h =
          let b = before h.form in
          record {
            form = b.0;
            here = judge (sense l.kind) f ∷ h.here;
            ahead = h.ahead;
            split = ap judged_in b.1 ∙ ap (λ z. judge (sense l.kind) f ∷ z) h.split;
            spelled = (refl, h.spelled);
            clear = (none, h.clear);
          }

      first-faulty : (front : List Lexeme) (k : Lexeme) (x : Fault) → Faulty (script t) front k x → Faulty (script s) (l ∷ front) k x
      first-faulty front k x h =
          let b = before h.form in
          record {
            form = b.0;
            here = judge (sense l.kind) f ∷ h.here;
            broken = h.broken;
            ahead = h.ahead;
            split = ap judged_in b.1 ∙ ap (λ z. judge (sense l.kind) f ∷ z) h.split;
            spelled = (refl, h.spelled);
            clear = (none, h.clear);
            word = h.word;
            is = h.is;
          }

      -- and the other way round
      later_viable : (front : List Lexeme) → Viable (script s) (l ∷ front) → Viable (script t) front
      later_viable front h =
          let w = same_way s t l h.0 [] (front ++ h.1) e h.2 in
          (w.0, h.1, (subst (λ z. Spells (judged_in z) (l ∷ (front ++ h.1)) []) w.3 h.2).1)

      first-viable : (front : List Lexeme) → Viable (script t) front → Viable (script s) (l ∷ front)
      first-viable front h =
          let b = before h.0 in
          (b.0, h.1, subst (λ z. Spells (judged_in z) (l ∷ (front ++ h.1)) []) (sym b.1) (refl, h.2))

      first-reason : (front : List Lexeme) (k : Lexeme) (c : Cause) → Reason (script t) front k c → Reason (script s) (l ∷ front) k c
      first-reason front k IllegalWord h = h
      first-reason front k UnexpectedWord h = (h.0, λ v. h.1 (later_viable (front ++ k ∷ []) v))
      first-reason front k WrongName h = first-faulty front k wrong_name h
      first-reason front k WrongVariable h = first-faulty front k wrong_variable h
      first-reason front k NoSuchCondition h = first-faulty front k no_such_condition h
      first-reason front k OverLimit h = first-faulty front k over_limit h

      first-why : (front back : List Lexeme) (c : Cause) → Why t front back c → Why s (l ∷ front) back c
      first-why front [] c h = h
      first-why front (k ∷ back) c h = first-reason front k c h

      first-tells : (ls : List Lexeme) (o : Outcome E) → Tells t ls o → Tells s (l ∷ ls) o
      first-tells ls (taken x after) h = first-takes ls x after h
      first-tells ls (stopped c back) h =
          record { front = l ∷ h.front; split = ap (λ z. l ∷ z) h.split; begun = first-begun h.front h.begun; why = first-why h.front back c h.why }

    -- a word that breaks a rule, as the first one
    faulty_first : (s : S) (l : Lexeme) (x : Fault) → Breaks s (sense l.kind) x → Faulty (script s) [] l x
    faulty_first s l x b =
        record { form = b.0; here = []; broken = judge (sense l.kind) b.1; ahead = judged_in b.2; split = ap judged_in b.3; spelled = refl; clear = tt; word = refl; is = b.4 }

    refused-first : (s : S) (l : Lexeme) (c : Cause) → turned s (sense l.kind) ≡ fails c → Next s (sense l.kind) (fails c) → Reason (script s) [] l c
    refused-first s l IllegalWord e n = n
    refused-first s l UnexpectedWord e n = (n, hopeless s l e)
    refused-first s l WrongName e n = faulty_first s l wrong_name n
    refused-first s l WrongVariable e n = faulty_first s l wrong_variable n
    refused-first s l NoSuchCondition e n = faulty_first s l no_such_condition n
    refused-first s l OverLimit e n = faulty_first s l over_limit n

    -- what a reading tells
    pub tells : (ls : List Lexeme) (s : S) → Tells s ls (run turned s ls)
    tells [] s = record { front = []; split = refl; begun = not_yet s; why = refl }
    tells (l ∷ ls) s = go (turned s (sense l.kind)) refl (next s l.kind) (λ t. tells ls t)
      where
        go : (x : Step S E) → turned s (sense l.kind) ≡ x → Next s (sense l.kind) x → ((t : S) → Tells t ls (run turned t ls)) → Tells s (l ∷ ls) (on_step x (λ t. run turned t ls) (λ e. taken e ls) (λ c. stopped c (l ∷ ls)))
        go (onward t) e n more = first-tells s t l e n.0 n.1 n.2 ls (run turned t ls) (more t)
        go (whole x) e n more =
            record {
              form = n.0;
              spelled = subst (λ z. Spells (judged_in z) (l ∷ ls) ls) (sym n.1) (refl, refl);
              clear = subst (λ z. Faultless (judged_in z)) (sym n.1) (refl, tt);
              asked = sym (ap asked_by n.1);
            }
        go (fails c) e n more = record { front = []; split = refl; begun = not_yet s; why = refused-first s l c e n }

    -- ---- only one answer fits

    -- the words of what is left count as they are written
    sensed_within : (x : Script E) (s : S) (r : R s) → script s r ≡ x → Sensed (judged_in x)
    sensed_within (asks e) s r g = tt
    sensed_within (then' j x) s r g = go (view s r) (λ t q i. sensed_within x t q i)
      where
        go : View s (script s r) → ((t : S) (q : R t) → script t q ≡ x → Sensed (judged_in x)) → Sensed (judged_in (then' j x))
        go v more =
            let both : then' v.0 v.1 ≡ then' j x = sym v.2 ∙ g in
            let same : v.0 ≡ j = cc in
            let others : v.1 ≡ x = cc in
            (subst (λ z. sense z.word ≡ z.word) same v.3, way v.4 others)
          where
            way : Way s v.0 v.1 → v.1 ≡ x → Sensed (judged_in x)
            way (inl w) i = subst (λ z. Sensed (judged_in z)) (sym w.1 ∙ i) tt
            way (inr w) i = more w.0 w.1 (sym w.2 ∙ i)

    -- some form begins with a word that leads on, ends the form, or breaks a rule
    viable_with : (s : S) (l : Lexeme) (q : R s) (f : Option Fault) (y : Script E) → script s q ≡ then' (judge (sense l.kind) f) y → Viable (script s) (l ∷ [])
    viable_with s l q f y g =
        (q, words_for (judged_in y), subst (λ z. Spells (judged_in z) (l ∷ words_for (judged_in y)) []) (sym g) (refl, spells_for (judged_in y) (sensed_within (then' (judge (sense l.kind) f) y) s q g).1))

    -- a word that cannot continue is not taken
    unexpected-fails : (s : S) (l : Lexeme) → ((w : List ℕ) → sense l.kind ≡ illegal w → ⊥) → (Viable (script s) (l ∷ []) → ⊥) → turned s (sense l.kind) ≡ fails UnexpectedWord
    unexpected-fails s l legal none = go (turned s (sense l.kind)) (next s l.kind)
      where
        broken : (x : Fault) → Breaks s (sense l.kind) x → ⊥
        broken x b = none (viable_with s l b.0 b.1 b.2 b.3)

        go : (x : Step S E) → Next s (sense l.kind) x → x ≡ fails UnexpectedWord
        go (onward t) n = absurd (none (viable_with s l (n.2 (some t)).0 n.0 (script t (some t)) (n.2 (some t)).1))
        go (whole e) n = absurd (none (viable_with s l n.0 None (asks e) n.1))
        go (fails IllegalWord) n = absurd (legal n.0 n.1)
        go (fails UnexpectedWord) n = refl
        go (fails WrongName) n = absurd (broken wrong_name n)
        go (fails WrongVariable) n = absurd (broken wrong_variable n)
        go (fails NoSuchCondition) n = absurd (broken no_such_condition n)
        go (fails OverLimit) n = absurd (broken over_limit n)

    -- a word that breaks a rule is refused for that
    faulty_fails : (s : S) (l : Lexeme) (x : Fault) → Faulty (script s) [] l x → turned s (sense l.kind) ≡ fails (cause_of x)
    faulty_fails s l x h = go h.here h.split h.spelled (view s h.form)
      where
        go : (here : List Judged) → judged_in (script s h.form) ≡ here ++ h.broken ∷ h.ahead → Spells here [] [] → View s (script s h.form) → turned s (sense l.kind) ≡ fails (cause_of x)
        go (j ∷ js) g i v = absurd i
        go [] g i v =
            let both : v.0 ∷ judged_in v.1 ≡ h.broken ∷ h.ahead = sym (ap judged_in v.2) ∙ g in
            let same : v.0 ≡ h.broken = cc in
            ap (turned s) (h.word ∙ sym (ap (λ z. z.word) same)) ∙ way v.4 (ap (λ z. z.fault) same ∙ h.is)
          where
            way : Way s v.0 v.1 → v.0.fault ≡ Some x → turned s v.0.word ≡ fails (cause_of x)
            way (inl w) f = w.2 ∙ ap (λ o. unless o (whole w.0)) f
            way (inr w) f = w.3 ∙ ap (λ o. unless o (onward w.0)) f

    reason_fails : (s : S) (l : Lexeme) (c : Cause) → Reason (script s) [] l c → turned s (sense l.kind) ≡ fails c
    reason_fails s l IllegalWord h = ap (turned s) h.1 ∙ bad s h.0
    reason_fails s l UnexpectedWord h = unexpected-fails s l h.0 h.1
    reason_fails s l WrongName h = faulty_fails s l wrong_name h
    reason_fails s l WrongVariable h = faulty_fails s l wrong_variable h
    reason_fails s l NoSuchCondition h = faulty_fails s l no_such_condition h
    reason_fails s l OverLimit h = faulty_fails s l over_limit h

    -- a word later, where the first one leads on
    module _ (s t : S) (l : Lexeme) (e : turned s (sense l.kind) ≡ onward t) where
      later_faulty : (front : List Lexeme) (k : Lexeme) (x : Fault) → Faulty (script s) (l ∷ front) k x → Faulty (script t) front k x
      later_faulty front k x h = go h.here h.split h.spelled h.clear
        where
          joined : (js : List Judged) (is : List Judged) (fs us after : List Lexeme) → Spells js fs [] → Spells is us after → Spells (js ++ is) (fs ++ us) after
          joined [] is [] us after g i = i
          joined [] is (f ∷ fs) us after g i = absurd cc
          joined (j ∷ js) is [] us after g i = absurd g
          joined (j ∷ js) is (f ∷ fs) us after g i = (g.0, joined js is fs us after g.1 i)

          rest : (js : List Judged) (is : List Judged) → Sensed (js ++ is) → Sensed is
          rest [] is g = g
          rest (j ∷ js) is g = rest js is g.1

          later : (j : Judged) (js : List Judged) → judged_in (script s h.form) ≡ j ∷ (js ++ h.broken ∷ h.ahead) → Spells js front [] → Faultless js → ((r : R t) × (f : Option Fault) × (f ≡ None) × (script s h.form ≡ then' (judge (sense l.kind) f) (script t r))) → Faulty (script t) front k x
          later j js g i c w =
              let both : judge (sense l.kind) w.1 ∷ judged_in (script t w.0) ≡ j ∷ (js ++ h.broken ∷ h.ahead) = sym (ap judged_in w.3) ∙ g in
              let others : judged_in (script t w.0) ≡ js ++ h.broken ∷ h.ahead = cc in
              record { form = w.0; here = js; broken = h.broken; ahead = h.ahead; split = others; spelled = i; clear = c; word = h.word; is = h.is }

          go : (here : List Judged) → judged_in (script s h.form) ≡ here ++ h.broken ∷ h.ahead → Spells here (l ∷ front) [] → Faultless here → Faulty (script t) front k x
          go [] g i c = absurd cc
          go (j ∷ js) g i c =
              let sensed = subst Sensed g (sensed_within (script s h.form) s h.form refl) in
              let after = rest (h.broken ∷ []) h.ahead (rest (j ∷ js) (h.broken ∷ h.ahead) sensed) in
              let all : Spells (judged_in (script s h.form)) (l ∷ (front ++ k ∷ words_for h.ahead)) [] = subst (λ z. Spells z (l ∷ (front ++ k ∷ words_for h.ahead)) []) (sym g) (i.0, joined js (h.broken ∷ h.ahead) front (k ∷ words_for h.ahead) [] i.1 (h.word, spells_for h.ahead after)) in
              later j js g i.1 c.1 (same_way s t l h.form [] (front ++ k ∷ words_for h.ahead) e all)

      later_reason : (f : Option Fault) → f ≡ None → ((r : R t) → (q : R s) × (script s q ≡ then' (judge (sense l.kind) f) (script t r))) → (front : List Lexeme) (k : Lexeme) (c : Cause) → Reason (script s) (l ∷ front) k c → Reason (script t) front k c
      later_reason f none before front k IllegalWord h = h
      later_reason f none before front k UnexpectedWord h = (h.0, λ v. h.1 (first-viable s t l e f none before (front ++ k ∷ []) v))
      later_reason f none before front k WrongName h = later_faulty front k wrong_name h
      later_reason f none before front k WrongVariable h = later_faulty front k wrong_variable h
      later_reason f none before front k NoSuchCondition h = later_faulty front k no_such_condition h
      later_reason f none before front k OverLimit h = later_faulty front k over_limit h

      later_why : (f : Option Fault) → f ≡ None → ((r : R t) → (q : R s) × (script s q ≡ then' (judge (sense l.kind) f) (script t r))) → (front back : List Lexeme) (c : Cause) → Why s (l ∷ front) back c → Why t front back c
      later_why f none before front [] c h = h
      later_why f none before front (k ∷ back) c h = later_reason f none before front k c h

    -- a form that has begun with a word that breaks no rule is whole, or goes on from the next state
    begun-on : (s : S) (l : Lexeme) (front : List Lexeme) → Begun (script s) (l ∷ front) → (((back : List Lexeme) → TakesNone (script s) ((l ∷ front) ++ back) → ⊥)) ⊎ ((t : S) × (turned s (sense l.kind) ≡ onward t) × Begun (script t) front)
    begun-on s l front h = go h.here h.split h.spelled h.clear (view s h.form)
      where
        go : (here : List Judged) → judged_in (script s h.form) ≡ here ++ h.ahead → Spells here (l ∷ front) [] → Faultless here → View s (script s h.form) → (((back : List Lexeme) → TakesNone (script s) ((l ∷ front) ++ back) → ⊥)) ⊎ ((t : S) × (turned s (sense l.kind) ≡ onward t) × Begun (script t) front)
        go [] g i c v = absurd cc
        go (j ∷ js) g i c v = way v.4
          where
            both : v.0 ∷ judged_in v.1 ≡ j ∷ (js ++ h.ahead)
            both = sym (ap judged_in v.2) ∙ g

            same : v.0 ≡ j
            same = let b = both in cc

            others : judged_in v.1 ≡ js ++ h.ahead
            others = let b = both in cc

            clear : v.0.fault ≡ None
            clear = ap (λ z. z.fault) same ∙ c.0

            word : sense l.kind ≡ v.0.word
            word = i.0 ∙ sym (ap (λ z. z.word) same)

            spelt : (is : List Judged) (fs back : List Lexeme) → [] ≡ is ++ h.ahead → Spells is fs [] → fs ++ back ≡ back
            spelt [] [] back k m = refl
            spelt [] (f ∷ fs) back k m = absurd cc
            spelt (i ∷ is) fs back k m = absurd cc

            way : Way s v.0 v.1 → (((back : List Lexeme) → TakesNone (script s) ((l ∷ front) ++ back) → ⊥)) ⊎ ((t : S) × (turned s (sense l.kind) ≡ onward t) × Begun (script t) front)
            way (inl w) =
                inl (λ back none.
                none h.form back
                (subst (λ z. Spells (judged_in z) (l ∷ (front ++ back)) back) (sym (v.2 ∙ ap (then' v.0) w.1)) (word, spelt js front back (sym (ap judged_in w.1) ∙ others) i.1))
                (subst (λ z. Faultless (judged_in z)) (sym (v.2 ∙ ap (then' v.0) w.1)) (clear, tt)))
            way (inr w) =
                inr (
                  w.0,
                  ap (turned s) word ∙ w.3 ∙ ap (λ o. unless o (onward w.0)) clear,
                  record { form = w.1; here = js; ahead = h.ahead; split = ap judged_in (sym w.2) ∙ others; spelled = i.1; clear = c.1 },
                )

    -- the first broken word is where the reading stops
    stops : (front : List Lexeme) (s : S) (back : List Lexeme) (c : Cause) → TakesNone (script s) (front ++ back) → Begun (script s) front → Why s front back c → run turned s (front ++ back) ≡ stopped c back
    stops [] s [] c none b w = ap (λ x. stopped x []) (sym w)
    stops [] s (l ∷ ls) c none b w = ap (λ x. on_step x (λ t. run turned t ls) (λ e. taken e ls) (λ d. stopped d (l ∷ ls))) (reason_fails s l c w)
    stops (l ∷ front) s back c none b w = go (begun-on s l front b) (λ t n g u. stops front t back c n g u)
      where
        go : (((back : List Lexeme) → TakesNone (script s) ((l ∷ front) ++ back) → ⊥)) ⊎ ((t : S) × (turned s (sense l.kind) ≡ onward t) × Begun (script t) front) →
            ((t : S) → TakesNone (script t) (front ++ back) → Begun (script t) front → Why t front back c → run turned t (front ++ back) ≡ stopped c back) →
            run turned s (l ∷ (front ++ back)) ≡ stopped c back
        go (inl x) more = absurd (x back none)
        go (inr x) more = on (subst (Next s (sense l.kind)) x.1 (next s l.kind))
          where
            on : Next s (sense l.kind) (onward x.0) → run turned s (l ∷ (front ++ back)) ≡ stopped c back
            on n =
                ap (λ z. on_step z (λ t. run turned t (front ++ back)) (λ e. taken e (front ++ back)) (λ d. stopped d (l ∷ (front ++ back)))) x.1
                ∙ more x.0
                (λ form after spelled clear.
                let b = n.2 form in
                none b.0 after (subst (λ z. Spells (judged_in z) (l ∷ (front ++ back)) after) (sym b.1) (refl, spelled)) (subst (λ z. Faultless (judged_in z)) (sym b.1) (n.1, clear)))
                x.2
                (later_why s x.0 l x.1 n.0 n.1 n.2 front back c w)

    same_stop : (c d : Cause) (back left : List Lexeme) → ◌≡◌ {A = Outcome E} (stopped c back) (stopped d left) → (c ≡ d) × (back ≡ left)
    same_stop c d back left h = (cc, cc)

    same_taken : (e f : E) (after left : List Lexeme) → taken e after ≡ taken f left → (e ≡ f) × (after ≡ left)
    same_taken e f after left h = (cc, cc)

    -- how a reading ends where a word is broken
    broken-run : (s : S) (ls : List Lexeme) (end : ℕ) (c : Cause) (p : ℕ) → TakesNone (script s) ls → Broken (script s) ls end c p → (back : List Lexeme) × (run turned s ls ≡ stopped c back) × (p ≡ place_of end back)
    broken-run s ls end c p none b = go b.back b.split b.stands
      where
        go : (back : List Lexeme) → ls ≡ b.front ++ back → Stands (script s) b.front back end c p → (back : List Lexeme) × (run turned s ls ≡ stopped c back) × (p ≡ place_of end back)
        go [] a st = ([], ap (run turned s) a ∙ stops b.front s [] c (subst (TakesNone (script s)) a none) b.begun st.0, st.1)
        go (l ∷ back) a st = (l ∷ back, ap (run turned s) a ∙ stops b.front s (l ∷ back) c (subst (TakesNone (script s)) a none) b.begun st.1, st.0)

    pub one_answer : (s : S) → OneAnswer (script s)
    one_answer s = record {
      taken = λ ls e f after left t u. same_taken e f after left (sym (takes_run s ls e after t) ∙ takes_run s ls f left u);
      refused = λ ls end c d p q none b g.
          let x = broken-run s ls end c p none b in
          let y = broken-run s ls end d q none g in
          let same = same_stop c d x.0 y.0 (sym x.1 ∙ y.1) in
          (same.0, x.2 ∙ ap (place_of end) same.1 ∙ sym y.2);
    }

    -- ---- from an outcome to the answer of a call

    pub run-takes : (s : S) (ls : List Lexeme) (e : E) (after : List Lexeme) → run turned s ls ≡ taken e after → Takes (script s) ls e after
    run-takes s ls e after h = subst (Tells s ls) h (tells ls s)

    pub run-broken : (s : S) (ls back : List Lexeme) (end : ℕ) (c : Cause) (p : ℕ) → run turned s ls ≡ stopped c back → p ≡ place_of end back → Broken (script s) ls end c p
    run-broken s ls back end c p h g = go back (subst (Tells s ls) h (tells ls s)) g
      where
        go : (back : List Lexeme) → Stopped s ls c back → p ≡ place_of end back → Broken (script s) ls end c p
        go [] t i = record { front = t.front; back = []; split = t.split; begun = t.begun; stands = (t.why, i) }
        go (l ∷ back) t i = record { front = t.front; back = l ∷ back; split = t.split; begun = t.begun; stands = (i, t.why) }

    -- a form that was taken leaves fewer words
    spells_fewer : (js : List Judged) (ls after : List Lexeme) → Spells js ls after → length ls ≡ length js + length after
    spells_fewer [] ls after h = ap length h ∙ sym (zero-add (length after))
    spells_fewer (j ∷ js) [] after h = absurd h
    spells_fewer (j ∷ js) (l ∷ ls) after h = let r = spells_fewer js ls after h.1 in omega arith

    pub takes_fewer : (s : S) (ls : List Lexeme) (e : E) (after : List Lexeme) → Takes (script s) ls e after → length after < length ls
    takes_fewer s ls e after t =
        let v = view s t.form in
        let f = spells_fewer (v.0 ∷ judged_in v.1) ls after (subst (λ z. Spells (judged_in z) ls after) v.2 t.spelled) in
        omega arith
