-- Two languages whose forms have the same words, of which the same is wrong with each up to the first that breaks a rule, take the
-- same and refuse the same. Assumes nothing.
use Rattle.std.proofs.Common.{◌≡◌, ℕ, List, [], ◌∷◌, ◌++◌, map, None, sym, refl, ap, ◌∙◌, subst}
use Rattle.words.specs.Words.{Lexeme}
use Rattle.languages.specs.declared.refusal.Cause.{Cause}
use Rattle.languages.specs.declared.refusal.Cause.TheVariants.{IllegalWord, UnexpectedWord, WrongName, WrongVariable, NoSuchCondition, OverLimit}
use Rattle.languages.specs.Refusals.{Fault}
use Rattle.languages.specs.Scripts.{Judged, judge, Script, judged_in, asked_by, Faultless}
use Rattle.languages.specs.Languages.{Spells, Takes, TakesNone, Begun, Faulty, Reason, Stands, Broken, OneAnswer}

-- the same words, and the same wrong with each up to the first that breaks a rule
abbrev pub Alike : List Judged → List Judged → Type 0
Alike [] [] = Unit {0}
Alike [] (k ∷ ks) = ⊥
Alike (j ∷ js) [] = ⊥
Alike (j ∷ js) (k ∷ ks) = (j.word ≡ k.word) × (j.fault ≡ k.fault) × (map (λ x. x.word) js ≡ map (λ x. x.word) ks) × (j.fault ≡ None → Alike js ks)

alike-words : (js ks : List Judged) → Alike js ks → map (λ x. x.word) js ≡ map (λ x. x.word) ks
alike-words [] [] a = refl
alike-words [] (k ∷ ks) a = absurd a
alike-words (j ∷ js) [] a = absurd a
alike-words (j ∷ js) (k ∷ ks) a = ap (λ w. w ∷ map (λ x. x.word) js) a.0 ∙ ap (λ ws. k.word ∷ ws) a.2

pub alike-sym : (js ks : List Judged) → Alike js ks → Alike ks js
alike-sym [] [] a = tt
alike-sym [] (k ∷ ks) a = absurd a
alike-sym (j ∷ js) [] a = absurd a
alike-sym (j ∷ js) (k ∷ ks) a = (sym a.0, sym a.1, sym a.2, λ e. alike-sym js ks (a.3 (a.1 ∙ e)))

same-spelled : (js ks : List Judged) (ls after : List Lexeme) → map (λ x. x.word) js ≡ map (λ x. x.word) ks → Spells js ls after → Spells ks ls after
same-spelled [] [] ls after e h = h
same-spelled [] (k ∷ ks) ls after e h = absurd cc
same-spelled (j ∷ js) [] ls after e h = absurd cc
same-spelled (j ∷ js) (k ∷ ks) [] after e h = absurd h
same-spelled (j ∷ js) (k ∷ ks) (l ∷ ls) after e h =
    let w : j.word ≡ k.word = cc in
    let ws : map (λ x. x.word) js ≡ map (λ x. x.word) ks = cc in
    (h.0 ∙ w, same-spelled js ks ls after ws h.1)

same-clear : (js ks : List Judged) → Alike js ks → Faultless js → Faultless ks
same-clear [] [] a h = tt
same-clear [] (k ∷ ks) a h = absurd a
same-clear (j ∷ js) [] a h = absurd a
same-clear (j ∷ js) (k ∷ ks) a h = (sym a.1 ∙ h.0, same-clear js ks (a.3 h.0) h.1)

same-judged : (j k : Judged) → j.word ≡ k.word → j.fault ≡ k.fault → k ≡ j
same-judged j k w f = ap (λ x. judge x k.fault) (sym w) ∙ ap (judge j.word) (sym f)

-- what follows a beginning in which nothing is wrong
alike-behind : (here js ks : List Judged) → Alike (here ++ js) ks → Faultless here → (ms : List Judged) × (ks ≡ here ++ ms) × Alike js ms
alike-behind [] js ks a h = (ks, refl, a)
alike-behind (i ∷ here) js [] a h = absurd a
alike-behind (i ∷ here) js (k ∷ ks) a h =
    let r = alike-behind here js ks (a.3 h.0) h.1 in
    (r.0, ap (λ x. x ∷ ks) (same-judged i k a.0 a.1) ∙ ap (λ xs. i ∷ xs) r.1, r.2)

module _ {F E : Type 0} (x y : F → Script E) (same : (form : F) → Alike (judged_in (x form)) (judged_in (y form))) (asked : (form : F) → asked_by (x form) ≡ asked_by (y form)) where
  pub takes-too : (ls : List Lexeme) (e : E) (after : List Lexeme) → Takes x ls e after → Takes y ls e after
  takes-too ls e after t =
      record {
        form = t.form;
        spelled = same-spelled (judged_in (x t.form)) (judged_in (y t.form)) ls after (alike-words _ _ (same t.form)) t.spelled;
        clear = same-clear (judged_in (x t.form)) (judged_in (y t.form)) (same t.form) t.clear;
        asked = t.asked ∙ asked t.form;
      }

  begun-too : (front : List Lexeme) → Begun x front → Begun y front
  begun-too front b =
      let r = alike-behind b.here b.ahead (judged_in (y b.form)) (subst (λ js. Alike js (judged_in (y b.form))) b.split (same b.form)) b.clear in
      record { form = b.form; here = b.here; ahead = r.0; split = r.1; spelled = b.spelled; clear = b.clear }

  faulty-too : (front : List Lexeme) (l : Lexeme) (fault : Fault) → Faulty x front l fault → Faulty y front l fault
  faulty-too front l fault b =
      let r = alike-behind b.here (b.broken ∷ b.ahead) (judged_in (y b.form)) (subst (λ js. Alike js (judged_in (y b.form))) b.split (same b.form)) b.clear in
      go r.0 r.1 r.2
    where
      go : (ms : List Judged) → judged_in (y b.form) ≡ b.here ++ ms → Alike (b.broken ∷ b.ahead) ms → Faulty y front l fault
      go [] e a = absurd a
      go (m ∷ ms) e a =
          record {
            form = b.form;
            here = b.here;
            broken = m;
            ahead = ms;
            split = e;
            spelled = b.spelled;
            clear = b.clear;
            word = b.word ∙ a.0;
            is = sym a.1 ∙ b.is;
          }

module _ {F E : Type 0} (x y : F → Script E) (same : (form : F) → Alike (judged_in (x form)) (judged_in (y form))) (asked : (form : F) → asked_by (x form) ≡ asked_by (y form)) where
  back : (form : F) → Alike (judged_in (y form)) (judged_in (x form))
  back form = alike-sym _ _ (same form)

  pub none-too : (ls : List Lexeme) → TakesNone x ls → TakesNone y ls
  none-too ls n form after h c =
      n form after (same-spelled (judged_in (y form)) (judged_in (x form)) ls after (alike-words _ _ (back form)) h) (same-clear (judged_in (y form)) (judged_in (x form)) (back form) c)

  reason-too : (front : List Lexeme) (l : Lexeme) (c : Cause) → Reason x front l c → Reason y front l c
  reason-too front l IllegalWord r = r
  reason-too front l UnexpectedWord r =
      (r.0, λ v. r.1 (v.0, v.1, same-spelled (judged_in (y v.0)) (judged_in (x v.0)) ((front ++ l ∷ []) ++ v.1) [] (alike-words _ _ (back v.0)) v.2))
  reason-too front l WrongName r = faulty-too x y same asked front l _ r
  reason-too front l WrongVariable r = faulty-too x y same asked front l _ r
  reason-too front l NoSuchCondition r = faulty-too x y same asked front l _ r
  reason-too front l OverLimit r = faulty-too x y same asked front l _ r

  stands-too : (front ls : List Lexeme) (end : ℕ) (c : Cause) (p : ℕ) → Stands x front ls end c p → Stands y front ls end c p
  stands-too front [] end c p s = s
  stands-too front (l ∷ ls) end c p s = (s.0, reason-too front l c s.1)

  pub broken-too : (ls : List Lexeme) (end : ℕ) (c : Cause) (p : ℕ) → Broken x ls end c p → Broken y ls end c p
  broken-too ls end c p b =
      record { front = b.front; back = b.back; split = b.split; begun = begun-too x y same asked b.front b.begun; stands = stands-too b.front b.back end c p b.stands }

-- so where only one answer fits in one of them, only one fits in the other
pub one-answer-too : {F E : Type 0} (x y : F → Script E) → ((form : F) → Alike (judged_in (x form)) (judged_in (y form))) → ((form : F) → asked_by (x form) ≡ asked_by (y form)) → OneAnswer x → OneAnswer y
one-answer-too {F = F} x y same asked o =
    let back : (form : F) → Alike (judged_in (y form)) (judged_in (x form)) = λ form. alike-sym (judged_in (x form)) (judged_in (y form)) (same form) in
    let asked' : (form : F) → asked_by (y form) ≡ asked_by (x form) = λ form. sym (asked form) in
    record {
      taken = λ ls e f after left t u. o.taken ls e f after left (takes-too y x back asked' ls e after t) (takes-too y x back asked' ls f left u);
      refused = λ ls end c d p q n b g. o.refused ls end c d p q (none-too y x back asked' ls n) (broken-too y x back asked' ls end c p b) (broken-too y x back asked' ls end d q g);
    }
