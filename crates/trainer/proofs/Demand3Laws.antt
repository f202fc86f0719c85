-- Demand 3 holds of every list of calls, from the fresh car of every permitted settings.
-- One lemma for one word, then list inductions over a good car, then one lemma for a call.
-- Assumes nothing.
use Rattle.std.specs.Prelude.{Bool, true, false, ◌≡◌, refl, List, [], ◌∷◌, ◌++◌, ℕ, ◌+◌, ◌-◌, eqb, ltb, length, drop}
use Rattle.std.proofs.Common.{⊎_elim, sym, ap, ◌∙◌, arith, lt-ltb, le-ltb}
use Rattle.kit.specs.Pick.{pick, pick_true, pick_false, and_left, no}
use Rattle.event.specs.declared.Event.{Event}
use Rattle.car.specs.declared.Car.{Car}
use Rattle.car.specs.declared.Levers.{Levers}
use Rattle.car.specs.Car.{fresh_car, settings_of, Permitted}
use Rattle.history.proofs.WarningLaws.{acoustic_visual}
use Rattle.car.specs.Drive.{step_of, drive_of}
use Rattle.car.specs.Good.{good_of, lever_held}
use Rattle.car.proofs.FreshLaws.{permitted_good}
use Rattle.car.proofs.GoodLaws.{good}
use Rattle.car.specs.Lesson.{driven, answers_of, taught_of, untaught, lesson_of, answers_after, each_after}
use Rattle.car.proofs.LessonLaws.{driven_good, refusal_number, counts_all}
use Rattle.car.proofs.StepLaws.{step_good, drive_step}
use Rattle.history.specs.Neighbours.{is_lever}
use Rattle.history.specs.History.{accepted_lever, ticks_of, levers_of, Since, never}
use Rattle.history.proofs.HistoryLaws.{Accepted, Word, took, left, word_view, driven_append, now_all, neighbouring_step, Times, times_all, times_on}
use Rattle.history.proofs.AcceptedLaws.{accepted_same, accepted_clean}
use Rattle.history.specs.KeptDesired.{KeptDesired}
use Rattle.history.proofs.KeptDesiredLaws.{desired_kept}
use Rattle.record.specs.Layout.{packed}
use Rattle.record.specs.Record.{saved_refusal, saved_buffer}
use Rattle.record.proofs.RecordLaws.{saved_read}
use Rattle.trainer.specs.RecordCall.{read_back, kept_of}
use Rattle.trainer.specs.Calls.{Call, word, lesson, keep, Outcome, drove, taught, kept, outcome, car_of, refusal_of, ends, outcomes, ran, words, given, without_keeps, without_kept}
use Rattle.trainer.specs.Demand3.{Held, PutThere, Demand3}

-- ---- (f) from its history
-- and D is the formula's
held_of : (c : Car) (s : Since) → good_of c ≡ true → lever_held c ≡ true → Times c s → Held c s
held_of c s g q h =
    let v = h q in
    let n : c.now - c.levers.time ≡ s.ticks = omega (arith, v.0) in
    record { ticks = v.0; base = v.1; desired = rw (n, v.1) at ((good c g).hold q) }

-- from the word that put L there
held_since_of : (c : Car) (w : ℕ) (vs : List ℕ) → good_of c ≡ true → accepted_lever c w ≡ true → levers_of (step_of c w).car vs ≡ 0
    → lever_held (driven (step_of c w).car vs) ≡ true
    → Held (driven (step_of c w).car vs) (record { ticks = ticks_of (step_of c w).car vs; left = (step_of c w).car.cruise.desired })
held_since_of c w vs g l z q =
    let d = (step_of c w).car in
    let gd = step_good c w g in
    held_of (driven d vs) _ (driven_good d vs gd) q (λ p. let v = times_on d (record { ticks = 0; left = d.cruise.desired }) vs gd z (start (word_view c w g)) p in (omega (arith, v.0), v.1))
  where
    start : Word c w → Times (step_of c w).car (record { ticks = 0; left = (step_of c w).car.cruise.desired })
    start (took e _ a) = λ p. let n = a.neighbours.lever_out (sym a.lever ∙ l) p in (omega (arith, n.0), n.1)
    start (left n k) = no (sym l ∙ and_left _ _ n)

-- a lever that is out with cruise on was put there by a word, or stood so from the start
data Put (c : Car) (ws : List ℕ) : Type 0 where
  by_word : PutThere c ws → Put c ws
  from_start : lever_held c ≡ true → levers_of c ws ≡ 0 → c.levers.updown ≡ (driven c ws).levers.updown → Put c ws

put_all : (c : Car) (ws : List ℕ) → good_of c ≡ true → lever_held (driven c ws) ≡ true → Put c ws
unfolding driven levers_of
put_all c [] g q = from_start q refl refl
put_all c (w ∷ ws) g q = by (put_all (step_of c w).car ws (step_good c w g) q) (word_view c w g)
  where
    none : accepted_lever c w ≡ false → levers_of (step_of c w).car ws ≡ 0 → pick {A = ℕ} (accepted_lever c w) 1 0 + levers_of (step_of c w).car ws ≡ 0
    none n z = omega (arith, pick_false {A = ℕ} (accepted_lever c w) 1 0 n)

    first : (e : Event) → Accepted c w e → lever_held (step_of c w).car ≡ true → levers_of (step_of c w).car ws ≡ 0
        → (step_of c w).car.levers.updown ≡ (driven (step_of c w).car ws).levers.updown → (l : Bool) → is_lever e ≡ l → Put c (w ∷ ws)
    first e a h z s true l = by_word (record { before = []; word = w; after = ws; split = refl; accepted = a.lever ∙ l; last = z; leaves = s })
    first e a h z s false l =
        let n = a.neighbours.lever_kept l h in
        from_start n.0 (none (a.lever ∙ l) z) (ap (λ (x : Levers). x.updown) (sym n.1) ∙ s)

    by : Put (step_of c w).car ws → Word c w → Put c (w ∷ ws)
    by (by_word p) _ = by_word (record {
      before = w ∷ p.before;
      word = p.word;
      after = p.after;
      split = ap (λ (x : List ℕ). w ∷ x) p.split;
      accepted = p.accepted;
      last = p.last;
      leaves = p.leaves;
    })
    by (from_start h z s) (took e _ a) = first e a h z s (is_lever e) refl
    by (from_start h z s) (left n k) =
        from_start (rw k at h) (none (and_left _ _ n) z) (ap (λ (x : Car). x.levers.updown) (sym k) ∙ s)

put_there : (c : Car) (ws : List ℕ) → (lever_held c ≡ true → ⊥) → Put c ws → PutThere c ws
put_there c ws idle (by_word p) = p
put_there c ws idle (from_start h _ _) = absurd (idle h)

-- ---- a call
-- a record call of a good car: refused by 20, or it reads back the car that it wrote
saved_as : (c : Car) (buffer : List ℕ) → good_of c ≡ true
    → (saved_refusal c buffer ≡ pick (ltb (length buffer) 12) 20 0) × (saved_buffer c buffer ≡ pick (ltb (length buffer) 12) buffer (packed c ++ drop 12 buffer))
unfolding saved_refusal saved_buffer
saved_as c buffer g = (pick_true _ _ _ g, pick_true _ _ _ g)

keep_good : (c : Car) (buffer : List ℕ) → good_of c ≡ true → outcome c (keep buffer) ≡ given c (keep buffer)
unfolding outcome given kept_of read_back pick
keep_good c buffer g = go (ltb (length buffer) 12) refl
  where
    go : (p : Bool) → ltb (length buffer) 12 ≡ p
        → kept (kept_of c buffer) (saved_buffer c buffer) ≡ pick p (kept (record { car = c; refusal = 20 }) buffer) (kept (record { car = c; refusal = 0 }) (packed c ++ drop 12 buffer))
    go true e =
        let s = saved_as c buffer g in
        let r : saved_refusal c buffer ≡ 20 = rw e at s.0 in
        let b : saved_buffer c buffer ≡ buffer = rw e at s.1 in
        rw (r, b)
    go false e =
        let s = saved_as c buffer g in
        let r : saved_refusal c buffer ≡ 0 = rw e at s.0 in
        let b : saved_buffer c buffer ≡ packed c ++ drop 12 buffer = rw e at s.1 in
        rw (saved_read c buffer r, r, b)

word_good : (c : Car) (w : ℕ) → good_of c ≡ true → outcome c (word w) ≡ given c (word w)
unfolding outcome given
word_good c w g = ap drove (drive_step c w g)

lesson_good : (c : Car) (ws buffer : List ℕ) → good_of c ≡ true → outcome c (lesson ws buffer) ≡ given c (lesson ws buffer)
unfolding outcome given lesson_of each_after pick
lesson_good c ws buffer g = rw g (go (ltb (length buffer) (length ws)))
  where
    go : (p : Bool) → taught (pick p (untaught c 19) (taught_of c ws)) (pick p buffer (answers_of c ws ++ drop (length ws) buffer))
        ≡ pick p (taught (untaught c 19) buffer) (taught (taught_of c ws) (answers_of c ws ++ drop (length ws) buffer))
    go true = refl
    go false = refl

-- from a good car each call gives what the document gives
pub outcome_given : (c : Car) (k : Call) → good_of c ≡ true → outcome c k ≡ given c k
outcome_given c (word w) g = word_good c w g
outcome_given c (lesson ws buffer) g = lesson_good c ws buffer g
outcome_given c (keep buffer) g = keep_good c buffer g

-- a call leaves the car that its words give
given_ran : (c : Car) (k : Call) → good_of c ≡ true → car_of (given c k) ≡ driven c (ran c k)
unfolding given car_of ran driven lesson_of taught_of untaught pick
given_ran c (word w) g = refl
given_ran c (lesson ws buffer) g = rw g (go (ltb (length buffer) (length ws)))
  where
    go : (p : Bool) → car_of (pick p (taught (untaught c 19) buffer) (taught (taught_of c ws) (answers_of c ws ++ drop (length ws) buffer)))
        ≡ driven c (pick (eqb (pick p (untaught c 19) (taught_of c ws)).refusal 0) ws [])
    go true = refl
    go false = refl
given_ran c (keep buffer) g = go (ltb (length buffer) 12)
  where
    go : (p : Bool) → car_of (pick p (kept (record { car = c; refusal = 20 }) buffer) (kept (record { car = c; refusal = 0 }) (packed c ++ drop 12 buffer))) ≡ c
    go true = refl
    go false = refl

after_ran : (c : Car) (k : Call) → good_of c ≡ true → car_of (outcome c k) ≡ driven c (ran c k)
after_ran c k g = ap car_of (outcome_given c k g) ∙ given_ran c k g

after_good : (c : Car) (k : Call) → good_of c ≡ true → good_of (car_of (outcome c k)) ≡ true
after_good c k g = rw (after_ran c k g) (driven_good c (ran c k) g)

-- ---- a list of calls
pub ends_append : (c : Car) (js ks : List Call) → ends c (js ++ ks) ≡ ends (ends c js) ks
unfolding ends
ends_append c [] ks = refl
ends_append c (j ∷ js) ks = ends_append (car_of (outcome c j)) js ks

ends_good : (c : Car) (ks : List Call) → good_of c ≡ true → good_of (ends c ks) ≡ true
unfolding ends
ends_good c [] g = g
ends_good c (k ∷ ks) g = ends_good (car_of (outcome c k)) ks (after_good c k g)

ends_words : (c : Car) (ks : List Call) → good_of c ≡ true → ends c ks ≡ driven c (words c ks)
unfolding ends words driven
ends_words c [] g = refl
ends_words c (k ∷ ks) g =
    let d = car_of (outcome c k) in
    ends_words d ks (after_good c k g) ∙ ap (λ (x : Car). driven x (words d ks)) (after_ran c k g) ∙ sym (driven_append c (ran c k) (words d ks))

keep_same : (c : Car) (buffer : List ℕ) → good_of c ≡ true → car_of (outcome c (keep buffer)) ≡ c
unfolding ran driven
keep_same c buffer g = after_ran c (keep buffer) g

without : (c : Car) (ks : List Call) → good_of c ≡ true
    → (ends c (without_keeps ks) ≡ ends c ks) × (outcomes c (without_keeps ks) ≡ without_kept (outcomes c ks))
unfolding ends outcomes outcome without_keeps without_kept
without c [] g = (refl, refl)
without c (word w ∷ ks) g =
    let h = without (car_of (outcome c (word w))) ks (after_good c (word w) g) in (h.0, ap (λ (x : List Outcome). drove (drive_of c w) ∷ x) h.1)
without c (lesson ws buffer ∷ ks) g =
    let h = without (car_of (outcome c (lesson ws buffer))) ks (after_good c (lesson ws buffer) g) in
    (h.0, ap (λ (x : List Outcome). taught (lesson_of c ws buffer) (answers_after c ws buffer) ∷ x) h.1)
without c (keep buffer ∷ ks) g = rw (keep_same c buffer g) (without c ks g)

-- ---- a call's refusal, from a good car
lesson_refusal : (c : Car) (ws buffer : List ℕ) → good_of c ≡ true → refusal_of (outcome c (lesson ws buffer)) ≡ pick (ltb (length buffer) (length ws)) 19 0
unfolding refusal_of given taught_of untaught pick
lesson_refusal c ws buffer g = rw (outcome_given c (lesson ws buffer) g) (go (ltb (length buffer) (length ws)))
  where
    go : (p : Bool) → refusal_of (pick p (taught (untaught c 19) buffer) (taught (taught_of c ws) (answers_of c ws ++ drop (length ws) buffer))) ≡ pick p 19 0
    go true = refl
    go false = refl

record_refusal : (c : Car) (buffer : List ℕ) → good_of c ≡ true → refusal_of (outcome c (keep buffer)) ≡ pick (ltb (length buffer) 12) 20 0
unfolding refusal_of given pick
record_refusal c buffer g = rw (outcome_given c (keep buffer) g) (go (ltb (length buffer) 12))
  where
    go : (p : Bool)
        → refusal_of (pick p (kept (record { car = c; refusal = 20 }) buffer) (kept (record { car = c; refusal = 0 }) (packed c ++ drop 12 buffer))) ≡ pick p 20 0
    go true = refl
    go false = refl

-- one of two numbers
either : (p : Bool) (m n k : ℕ) → (m ≡ k → ⊥) → (n ≡ k → ⊥) → pick p m n ≡ k → ⊥
unfolding pick
either true m n k f g = f
either false m n k f g = g

never_18_of : (c : Car) (k : Call) → good_of c ≡ true → refusal_of (outcome c k) ≡ 18 → ⊥
unfolding refusal_of given
never_18_of c (word w) g h = let r = rw (outcome_given c (word w) g) at h in ⊎_elim (λ l. omega (arith, l, r)) (λ l. omega (arith, l, r)) (refusal_number c w)
never_18_of c (lesson ws buffer) g h = either (ltb (length buffer) (length ws)) 19 0 18 (omega arith) (omega arith) (sym (lesson_refusal c ws buffer g) ∙ h)
never_18_of c (keep buffer) g h = either (ltb (length buffer) 12) 20 0 18 (omega arith) (omega arith) (sym (record_refusal c buffer g) ∙ h)

lesson_counts : (c : Car) (ws buffer : List ℕ) → good_of c ≡ true → (lesson_of c ws buffer).refusal ≡ 0
    → (lesson_of c ws buffer).accepted + (lesson_of c ws buffer).refused ≡ length ws
unfolding lesson_of taught_of untaught pick
lesson_counts c ws buffer g = rw g (go (ltb (length buffer) (length ws)))
  where
    go : (p : Bool) → (pick p (untaught c 19) (taught_of c ws)).refusal ≡ 0
        → (pick p (untaught c 19) (taught_of c ws)).accepted + (pick p (untaught c 19) (taught_of c ws)).refused ≡ length ws
    go true h = absurd (omega arith)
    go false h = counts_all c ws

-- ---- demand 3
fresh_idle : (mode signs towing : ℕ) → lever_held (fresh_car (settings_of mode signs towing)) ≡ true → ⊥
unfolding fresh_car
fresh_idle mode signs towing h = no (sym h)

fresh_clock : (mode signs towing : ℕ) → (fresh_car (settings_of mode signs towing)).now ≡ 0
unfolding fresh_car
fresh_clock mode signs towing = refl

-- from any good car with an idle lever and its clock at 0, whose D every list of words keeps
from_good : (c : Car) (ks : List Call) → good_of c ≡ true → (lever_held c ≡ true → ⊥) → c.now ≡ 0 → ((us : List ℕ) → KeptDesired c us) → Demand3 c ks
unfolding driven
from_good c ks g idle zero desired = record {
  standing = good _ (ends_good c ks g);
  standing_each = λ us vs _. good _ (driven_good c us g);
  neighbours = λ us w vs _. rw (driven_append c us (w ∷ [])) (neighbouring_step _ w (driven_good c us g));
  held_each = λ us vs _ q. held_of _ _ (driven_good c us g) q (times_all c never us g (λ p. absurd (idle p)));
  held_word = λ us vs _ q. put_there c us idle (put_all c us g q);
  held_since = λ us w vs zs _.
      rw (driven_append c us (w ∷ []), driven_append c us (w ∷ vs)) (held_since_of (driven c us) w vs (driven_good c us g));
  warnings = λ us vs _. acoustic_visual (driven c us);
  car = ends_words c ks g;
  each_outcome = λ js k ls _. outcome_given _ k (ends_good c js g) ∙ ap (λ (x : Car). given x k) (ends_words c js g);
  never_18 = λ js k ls _. never_18_of _ k (ends_good c js g);
  lesson_short = λ js ws buffer ls _ h. lesson_refusal _ ws buffer (ends_good c js g) ∙ pick_true _ _ _ (lt-ltb _ _ h);
  lesson_fits = λ js ws buffer ls _ h. lesson_refusal _ ws buffer (ends_good c js g) ∙ pick_false _ _ _ (le-ltb _ _ h);
  record_short = λ js buffer ls _ h. record_refusal _ buffer (ends_good c js g) ∙ pick_true _ _ _ (lt-ltb _ _ h);
  record_fits = λ js buffer ls _ h. record_refusal _ buffer (ends_good c js g) ∙ pick_false _ _ _ (le-ltb _ _ h);
  alone = ends_words c ks g ∙ sym (accepted_same c (words c ks));
  none_refused = accepted_clean c (words c ks);
  counts = λ js ws buffer ls _. lesson_counts _ ws buffer (ends_good c js g);
  clock = ap (λ (x : Car). x.now) (ends_words c ks g) ∙ omega (arith, now_all c (words c ks) g);
  without_car = (without c ks g).0;
  without_outcomes = (without c ks g).1;
  desired_each = λ us vs _. desired us;
}

-- "For every list of these calls .., refused ones included, from a fresh car with any permitted settings, the following holds after it."
pub demand_3 : (mode signs towing : ℕ) → Permitted mode signs towing → (ks : List Call) → Demand3 (fresh_car (settings_of mode signs towing)) ks
demand_3 mode signs towing p ks =
    from_good _ ks (permitted_good mode signs towing p) (fresh_idle mode signs towing) (fresh_clock mode signs towing) (desired_kept mode signs towing p)
