-- Splits and joins of seats keep the rule. What `Holding` does with two seats cites these; the main ones are `joins` and
-- `merges`: two closed cuts of one run become one.
use Rattle.std.proofs.Common.{◌≡◌, ◌≢◌, ℕ, ◌<◌, ◌≤◌, ◌==◌, Bool, List, [], ◌∷◌, ◌++◌, length, get_or, set, if◌then◌else◌, Some, None, refl, ap, sym, ◌∙◌, subst, ⊎_elim, arith, eq-eqb, ne_eqb}
use Rattle.std.specs.Option.{option_or}
use mathlib.Core.Option.{some, none}
use lib.ListN.{get_elem?}
use lib.Seq.{set-get_or}
use Rattle.atomic_table.specs.Table.{State, step, keeps, stepped, Allows, Splits, Joins}
use Rattle.atomic_table.proofs.Lists.{set_else}
use Rattle.album_partition.specs.declared.marks.Mark.{Mark}
use Rattle.album_passes.specs.Cuts.{Cut, Announced, marks_at, prefix_at, announced_for, IsPrefix, Extends}
use Rattle.album_passes.specs.Changes.{merged}
use Rattle.album_passes.specs.Knowledge.{Terms, Knowledge, known, last_known, first_of, last_of, spent_seat}
use Rattle.album_passes.specs.Rule.{Run, IsCutOf, Holds, Fits, Agree, Keeps}
use Rattle.album_passes.specs.Steps.{cut_alone, less_first, first_alone, less_guest, guest_alone, beside, with_cut, Merges}
use Rattle.album_passes.proofs.PrefixLemmas.{prefix_self, prefix_shorter, prefix_length, longer_cases}
use Rattle.album_passes.proofs.AnnouncedLemmas.{listed-append, listed_each, listed_first, listed_second, some_or_none}
use Rattle.album_passes.proofs.CutLemmas.{longer_at, sound_merged}
use Rattle.album_passes.proofs.SeatLemmas.{set_one, set_each, push_each, at_append, at_one, at_none, given, given_here, given_else, given_still, same_cut, same_owner, same_holder, held_still, same_run}

-- a load changes no word
pub unmoved : (key : Terms) (s : State ℕ Knowledge) (i id : ℕ) (x : List (ℕ × ℕ)) (w : Knowledge) → Agree key s.words (set s.views id w)
    → Keeps key (stepped s i (get_or s.words i 0) id x w keeps)
unmoved key s i id x w k = subst (λ (ws : List ℕ). Agree key ws (set s.views id w)) (sym (set-get_or s.words i 0)) k

-- a seat that holds and owns nothing
bare_fits : (key : Terms) (r : Run) (j : ℕ) (cs : List Cut) (n : ℕ) → n ≤ r.drawn → ((k : ℕ) (c : Cut) → get_elem? cs k ≡ some c → IsCutOf key r c)
    → Fits key r j (record { cuts = cs; number = None; guest = None; low = 0; high = 0; drawn = n })
bare_fits key r j cs n le cuts = record {
  cuts = cuts;
  owns = λ p l h. absurd (omega arith);
  number = λ m e. absurd (cc (e));
  guest = λ m e. absurd (cc (e));
  apart = λ m n e g same. cc (e);
  seen = le;
}

module _ (key : Terms) where
  -- ---- a seat is split

  pub splits_cut : (id : ℕ) (v : Knowledge) → Splits {S = ℕ} (Keeps key) id v v (cut_alone v)
  splits_cut id v s k at =
      let mine = k.each id v at in
      let F : ℕ → Knowledge → Type 0 = Fits key k.run in
      same_run key s.words s.views (set s.views id v ++ cut_alone v ∷ []) k
      (push_each F (set s.views id v) (cut_alone v) (set_each F s.views id v (λ j u _ e. k.each j u e) mine)
      (bare_fits key k.run (length (set s.views id v)) v.cuts v.drawn mine.seen mine.cuts))

  pub splits_first : (id : ℕ) (v : Knowledge) → v.low < v.high → Splits {S = ℕ} (Keeps key) id v (less_first v) (first_alone v)
  splits_first id v some_part s k at =
      let mine = k.each id v at in
      let views : List Knowledge = set s.views id (less_first v) in
      let new : ℕ = length views in
      let owner : ℕ → ℕ = λ p. if p == v.low then new else k.run.owner p in
      let here : owner v.low ≡ new = ap (λ (b : Bool). if b then new else k.run.owner v.low) (eq-eqb v.low v.low refl) in
      let other : (p : ℕ) → p ≢ v.low → owner p ≡ k.run.owner p = λ p n. ap (λ (b : Bool). if b then new else k.run.owner p) (ne_eqb p v.low n) in
      let was = mine.owns v.low (omega arith) some_part in
      let r : Run = record k.run { owner = owner } in
      let F : ℕ → Knowledge → Type 0 = Fits key r in
      let cut_of : (c : Cut) → IsCutOf key k.run c → IsCutOf key r c = same_cut key k.run k.run.drawn owner k.run.holder in
      let holds : (j : ℕ) (c : Cut) (n : ℕ) → Holds k.run j c n → Holds r j c n = same_holder k.run k.run.histories owner in
      let left : F id (less_first v) = record {
        cuts = λ i c e. cut_of c (mine.cuts i c e);
        owns = λ p l h. (let o = mine.owns p (omega arith) h in record { alone = other p (λ e. omega arith) ∙ o.alone; whole = o.whole });
        number = λ n e. holds id (known v) n (mine.number n e);
        guest = λ n e. holds id (last_known v) n (mine.guest n e);
        apart = mine.apart;
        seen = mine.seen;
      } in
      let right : F new (first_alone v) = record {
        cuts = λ i c e. cut_of c (mine.cuts i c e);
        owns = λ p l h. (let e : p ≡ v.low = omega arith in record {
          alone = ap owner e ∙ here;
          whole = subst (λ (q : ℕ). prefix_at (known v) q ≡ marks_at k.run.histories q) (sym e) was.whole;
        });
        number = λ n e. absurd (cc (e));
        guest = λ n e. absurd (cc (e));
        apart = λ m n e g same. cc (e);
        seen = mine.seen;
      } in
      let rest : (j : ℕ) (u : Knowledge) → j ≢ id → get_elem? s.views j ≡ some u → F j u = λ j u apart e. let f = k.each j u e in record {
        cuts = λ i c h. cut_of c (f.cuts i c h);
        owns = λ p l h. (let o = f.owns p l h in record { alone = other p (λ same. apart (sym o.alone ∙ (ap k.run.owner same ∙ was.alone))) ∙ o.alone; whole = o.whole });
        number = λ n h. holds j (known u) n (f.number n h);
        guest = λ n h. holds j (last_known u) n (f.guest n h);
        apart = f.apart;
        seen = f.seen;
      } in
      record {
        run = r;
        words_are = k.words_are;
        wide = k.wide;
        legal = k.legal;
        chained = k.chained;
        few = k.few;
        most = k.most;
        named = k.named;
        depends = k.depends;
        each = push_each F views (first_alone v) (set_each F s.views id (less_first v) rest left) right;
      }

  -- where the holder of a number changes, and no seat's cuts or partitions
  new_holder : (words : List ℕ) (old new : List Knowledge) (k : Agree key words old) (holder : ℕ → ℕ)
      → ((id : ℕ) (v : Knowledge) → get_elem? new id ≡ some v → Fits key (record k.run { holder = holder }) id v)
      → Agree key words new
  new_holder words old new k holder each = record {
    run = record k.run { holder = holder };
    words_are = k.words_are;
    wide = k.wide;
    legal = k.legal;
    chained = k.chained;
    few = k.few;
    most = k.most;
    named = k.named;
    depends = k.depends;
    each = each;
  }

  pub splits_guest : (id : ℕ) (v : Knowledge) → v.cuts ≡ known v ∷ [] → Splits {S = ℕ} (Keeps key) id v (less_guest v) (guest_alone v)
  splits_guest id v one s k at =
      let mine = k.each id v at in
      let views : List Knowledge = set s.views id (less_guest v) in
      let new : ℕ = length views in
      let holder : ℕ → ℕ = given k.run.holder v.guest new in
      let last : last_known v ≡ known v = ap last_of one in
      let F : ℕ → Knowledge → Type 0 = Fits key (record k.run { holder = holder }) in
      let cut_of : (c : Cut) → IsCutOf key k.run c → IsCutOf key (record k.run { holder = holder }) c = same_cut key k.run k.run.drawn k.run.owner holder in
      let left : F id (less_guest v) = record {
        cuts = λ i c e. cut_of c (mine.cuts i c e);
        owns = λ p l h. same_owner k.run k.run.drawn k.run.announced holder id (known v) p (mine.owns p l h);
        number = λ n e. (let o = mine.number n e in record {
          alone = given_else k.run.holder v.guest new n (λ m g. mine.apart n m e g) ∙ o.alone;
          positive = o.positive;
          counted = o.counted;
          heard = o.heard;
        });
        guest = λ n e. absurd (cc (e));
        apart = λ m n e g same. cc (g);
        seen = mine.seen;
      } in
      let right : F new (guest_alone v) = record {
        cuts = λ i c e. cut_of c (mine.cuts i c e);
        owns = λ p l h. absurd (omega arith);
        number = λ n e. (let o = mine.guest n e in record {
          alone = given_here k.run.holder v.guest new n e;
          positive = o.positive;
          counted = o.counted;
          heard = λ t h. ap (λ (c : Cut). announced_for c t) (sym last) ∙ o.heard t h;
        });
        guest = λ n e. absurd (cc (e));
        apart = λ m n e g same. cc (g);
        seen = mine.seen;
      } in
      let rest : (j : ℕ) (u : Knowledge) → j ≢ id → get_elem? s.views j ≡ some u → F j u = λ j u apart e.
      held_still key k.run holder j u
      (λ n own. given_else k.run.holder v.guest new n (λ m g same. apart (sym own ∙ (ap k.run.holder same ∙ (mine.guest m g).alone))) ∙ own)
      (k.each j u e) in
      new_holder s.words s.views (views ++ guest_alone v ∷ []) k holder
      (push_each F views (guest_alone v) (set_each F s.views id (less_guest v) rest left) right)

  -- ---- two seats become one

  pub joins : (id : ℕ) (v : Knowledge) (other : ℕ) (w : Knowledge) → v.cuts ≡ known v ∷ [] → w.cuts ≡ known w ∷ []
      → Joins {S = ℕ} (Keeps key) id v other w (beside v w) spent_seat
  joins id v other w one two s k at apart there =
      let mine = k.each id v at in
      let theirs = k.each other w (sym (set_else s.views id other (beside v w) apart) ∙ there) in
      let holder : ℕ → ℕ = given k.run.holder w.number id in
      let F : ℕ → Knowledge → Type 0 = Fits key (record k.run { holder = holder }) in
      let cut_of : (c : Cut) → IsCutOf key k.run c → IsCutOf key (record k.run { holder = holder }) c = same_cut key k.run k.run.drawn k.run.owner holder in
      let whole : v.cuts ++ w.cuts ≡ known v ∷ known w ∷ [] = λ i. one i ++ two i in
      let first : first_of (v.cuts ++ w.cuts) ≡ known v = ap first_of whole in
      let last : last_of (v.cuts ++ w.cuts) ≡ known w = ap last_of whole in
      let both : F id (beside v w) = record {
        cuts = at_append (IsCutOf key (record k.run { holder = holder })) v.cuts w.cuts (λ i c e. cut_of c (mine.cuts i c e)) (λ i c e. cut_of c (theirs.cuts i c e));
        owns = λ p l h. (let o = mine.owns p l h in record { alone = o.alone; whole = ap (λ (c : Cut). prefix_at c p) first ∙ o.whole });
        number = λ n e. (let o = mine.number n e in record {
          alone = given_still k.run.holder w.number id n o.alone;
          positive = o.positive;
          counted = o.counted;
          heard = λ t h. ap (λ (c : Cut). announced_for c t) first ∙ o.heard t h;
        });
        guest = λ n e. (let o = theirs.number n e in record {
          alone = given_here k.run.holder w.number id n e;
          positive = o.positive;
          counted = o.counted;
          heard = λ t h. ap (λ (c : Cut). announced_for c t) last ∙ o.heard t h;
        });
        apart = λ m n e g same. apart (sym (theirs.number n g).alone ∙ (ap k.run.holder (sym same) ∙ (mine.number m e).alone));
        seen = (let a = mine.seen in let b = theirs.seen in omega arith);
      } in
      let left : F other spent_seat = bare_fits key (record k.run { holder = holder }) other [] 0 (omega arith) (at_none (IsCutOf key (record k.run { holder = holder }))) in
      let rest : (j : ℕ) (u : Knowledge) → j ≢ other → get_elem? s.views j ≡ some u → F j u = λ j u away e.
      held_still key k.run holder j u
      (λ n own. given_else k.run.holder w.number id n (λ m g same. away (sym own ∙ (ap k.run.holder same ∙ (theirs.number m g).alone))) ∙ own)
      (k.each j u e) in
      new_holder s.words s.views (set (set s.views id (beside v w)) other spent_seat) k holder
      (λ j u. set_one F (set s.views id (beside v w)) other spent_seat j u
      (λ away. set_one F s.views id (beside v w) j u (λ _. rest j u away) both) left)

  pub merges : (slots id : ℕ) (v : Knowledge) (x : List (ℕ × ℕ)) → v.cuts ≡ known v ∷ last_known v ∷ []
      → Allows {S = ℕ} (Keeps key) slots id (v, x) 0 (λ n. n) (Merges (step slots 0 0 0 none) (v, x))
  merges slots id v x two s k _ at _ =
      let F : ℕ → Knowledge → Type 0 = Fits key k.run in
      let mine = k.each id v at in
      let c : Cut = known v in
      let d : Cut = last_known v in
      let m : Cut = merged c d in
      let C : IsCutOf key k.run c = mine.cuts 0 c (ap (λ cs. get_elem? cs 0) two) in
      let D : IsCutOf key k.run d = mine.cuts 1 d (ap (λ cs. get_elem? cs 1) two) in
      let all : (t : ℕ) → announced_for m t ≡ option_or (announced_for c t) (announced_for d t) = listed-append c.announced d.announced in
      let ours : (t : ℕ) (is : Announced) → announced_for c t ≡ Some is → announced_for m t ≡ Some is = listed_first c.announced d.announced in
      let theirs : (t : ℕ) → announced_for c t ≡ None → announced_for m t ≡ announced_for d t = λ t e. all t ∙ ap (λ o. option_or o (announced_for d t)) e in
      let first_on : Extends c m = record {
        opening = refl;
        parts = refl;
        checked = refl;
        prefixes = λ p. subst (IsPrefix (prefix_at c p)) (sym (longer_at c.prefixes d.prefixes p)) (⊎_elim
            (λ t. subst (IsPrefix (prefix_at c p)) (sym t.1) (prefix_shorter (prefix_at c p) (prefix_at d p) (marks_at k.run.histories p) (C.prefixes p) (D.prefixes p) (omega arith)))
            (λ t. subst (IsPrefix (prefix_at c p)) (sym t.1) (prefix_self (prefix_at c p)))
            (longer_cases (prefix_at c p) (prefix_at d p)));
        announced = ours;
        depended = listed_first c.depended d.depended;
      } in
      let second_on : Extends d m = record {
        opening = C.opening ∙ sym D.opening;
        parts = C.parts ∙ sym D.parts;
        checked = C.checked ∙ sym D.checked;
        prefixes = λ p. subst (IsPrefix (prefix_at d p)) (sym (longer_at c.prefixes d.prefixes p)) (⊎_elim
            (λ t. subst (IsPrefix (prefix_at d p)) (sym t.1) (prefix_self (prefix_at d p)))
            (λ t. subst (IsPrefix (prefix_at d p)) (sym t.1) (prefix_shorter (prefix_at d p) (prefix_at c p) (marks_at k.run.histories p) (D.prefixes p) (C.prefixes p) t.0))
            (longer_cases (prefix_at c p) (prefix_at d p)));
        announced = listed_second k.run.announced c.announced d.announced C.announced D.announced;
        depended = listed_second k.run.depended c.depended d.depended C.depended D.depended;
      } in
      let M : IsCutOf key k.run m = record {
        opening = C.opening;
        parts = C.parts;
        checked = C.checked;
        prefixes = λ p. subst (λ (h : List Mark). IsPrefix h (marks_at k.run.histories p)) (sym (longer_at c.prefixes d.prefixes p)) (⊎_elim
            (λ t. subst (λ (h : List Mark). IsPrefix h (marks_at k.run.histories p)) (sym t.1) (D.prefixes p))
            (λ t. subst (λ (h : List Mark). IsPrefix h (marks_at k.run.histories p)) (sym t.1) (C.prefixes p))
            (longer_cases (prefix_at c p) (prefix_at d p)));
        announced = listed_each (λ t is. k.run.announced t ≡ Some is) c.announced d.announced C.announced D.announced;
        depended = listed_each (λ t ls. k.run.depended t ≡ Some ls) c.depended d.depended C.depended D.depended;
        sound = sound_merged c d (C.parts ∙ sym D.parts) C.sound D.sound first_on second_on;
      } in
      let w : Knowledge = with_cut v m in
      let now : F id w = record {
        cuts = at_one (IsCutOf key k.run) m M;
        owns = λ p l h. (let o = mine.owns p l h in record {
          alone = o.alone;
          whole = ⊎_elim
              (λ (t : (length (prefix_at c p) < length (prefix_at d p)) × _). (let le = prefix_length (prefix_at d p) (marks_at k.run.histories p) (D.prefixes p) in let e = ap length o.whole in absurd (omega arith)))
              (λ t. longer_at c.prefixes d.prefixes p ∙ (t.1 ∙ o.whole))
              (longer_cases (prefix_at c p) (prefix_at d p));
        });
        number = λ n e. (let o = mine.number n e in record {
          alone = o.alone;
          positive = o.positive;
          counted = o.counted;
          heard = λ t h. ⊎_elim
              (λ (q : (js : Announced) × (announced_for c t ≡ Some js)). ours t q.0 q.1 ∙ (sym q.1 ∙ o.heard t h))
              (λ (q : announced_for c t ≡ None). theirs t q ∙ ⊎_elim
              (λ (r : (js : Announced) × (announced_for d t ≡ Some js)). r.1 ∙ sym (D.announced t r.0 r.1))
              (λ (r : announced_for d t ≡ None). r ∙ (sym q ∙ o.heard t h))
              (some_or_none (announced_for d t)))
              (some_or_none (announced_for c t));
        });
        guest = λ n e. (let o = mine.guest n e in record {
          alone = o.alone;
          positive = o.positive;
          counted = o.counted;
          heard = λ t h. ⊎_elim
              (λ (q : (js : Announced) × (announced_for c t ≡ Some js)). ours t q.0 q.1 ∙ sym (C.announced t q.0 q.1))
              (λ (q : announced_for c t ≡ None). theirs t q ∙ o.heard t h)
              (some_or_none (announced_for c t));
        });
        apart = mine.apart;
        seen = mine.seen;
      } in (
        w,
        keeps,
        tt,
        unmoved key s 0 id x w (same_run key s.words s.views (set s.views id w) k (set_each F s.views id w (λ j u _ e. k.each j u e) now)),
        (
          refl,
          record {
            one_on = first_on;
            other_on = second_on;
            owned = λ p l h. (now.owns p l h).whole ∙ sym (mine.owns p l h).whole;
            own = λ n t e h. (now.number n e).heard t h ∙ sym ((mine.number n e).heard t h);
            guests = λ n t e h. (now.guest n e).heard t h ∙ sym ((mine.guest n e).heard t h);
            apart = mine.apart;
          },
        ),
      )
