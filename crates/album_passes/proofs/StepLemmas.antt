-- One seat's steps on a word keep the rule: to announce, to draw, to append. What `Holding` does alone cites these.
use Rattle.std.proofs.Common.{◌≡◌, ◌≢◌, ℕ, ◌+◌, ◌%◌, ◌^◌, ◌<◌, ◌≤◌, ◌==◌, Bool, true, List, [], ◌∷◌, ◌++◌, map, length, get_or, set, Some, None, Option, MatchBool, refl, ap, sym, ◌∙◌, subst, ⊎_elim, arith, length-set, length-append, add-one, get_or-set_other, get_or-set_same, eq-eqb, ne_eqb}
use Rattle.std.proofs.Math.ListN.{get_or-map}
use native.Mathlib.Decide.{ℕ_discrete}
use mathlib.Core.Logic.{dite}
use mathlib.Core.Option.{some, none}
use lib.ListN.{get_elem?}
use lib.Seq.{map-set}
use prog.Atomic.{either}
use Rattle.atomic_table.specs.Table.{State, Me, step, keeps, Allows}
use Rattle.album_partition.specs.declared.marks.Mark.{Mark}
use Rattle.album_partition.specs.Bases.{MayAppend, IsChainedIf, extends}
use Rattle.album_partition.specs.Marks.{may_follow, is_legal}
use Rattle.album_partition.proofs.BaseLemmas.{is_chained-push}
use Rattle.album_partition.proofs.LegalLemmas.{is_legal-push}
use Rattle.album_stamps.specs.Stamps.{client_number}
use Rattle.album_passes.specs.Cuts.{Cut, Announced, marks_at, prefix_at, announced_for, dependencies_of, IsBacked, IsPrefix}
use Rattle.album_passes.specs.Changes.{lengths_in, marked_cut, announced_cut, IsUnheard}
use Rattle.album_passes.specs.Knowledge.{Terms, Knowledge, known, last_known}
use Rattle.album_passes.specs.Rule.{Run, IsCutOf, Holds, Fits, Agree, Keeps}
use Rattle.album_passes.specs.Steps.{with_cut, Appends, Announces, with_number, with_drawn, Draws}
use Rattle.album_passes.proofs.PrefixLemmas.{prefix_self, prefix_trans}
use Rattle.album_passes.proofs.AnnouncedLemmas.{some_or_none, also_announced, also_some, none_too, announced_here, announced_else, announced_more}
use Rattle.album_passes.proofs.CutLemmas.{sound_marked, mark_here, mark_else, sound_announced}
use Rattle.album_passes.proofs.SeatLemmas.{set_each, at_one, given, given_here, given_else, same_cut, same_owner, same_holder, same_run}
use Rattle.album_passes.proofs.SplitLemmas.{unmoved}

module _ (key : Terms) where
  -- ---- a seat announces

  pub announces : (slots id : ℕ) (v : Knowledge) (x : List (ℕ × ℕ)) (n t : ℕ) (is : Announced)
      → v.cuts ≡ known v ∷ [] → v.guest ≡ None → v.number ≡ Some n → client_number t ≡ n → announced_for (known v) t ≡ None
      → Allows {S = ℕ} (Keeps key) slots id (v, x) 0 (λ m. m) (Announces t is (step slots 0 0 0 none) (v, x))
  announces slots id v x n t is one alone number mine_is fresh s k _ at _ =
      let mine = k.each id v at in
      let c : Cut = known v in
      let C : IsCutOf key k.run c = mine.cuts 0 c (ap (λ cs. get_elem? cs 0) one) in
      let o = mine.number n number in
      let unannounced : k.run.announced t ≡ None = sym (o.heard t mine_is) ∙ fresh in
      let lists : ℕ → Option Announced = also_announced k.run.announced t is in
      let more = announced_more k.run.announced t is unannounced in
      let deps : List ℕ = lengths_in c in
      let undepended : k.run.depended t ≡ None = none_too (k.run.depended t) (k.run.announced t) (k.depends t) unannounced in
      let depended : ℕ → Option (List ℕ) = also_announced k.run.depended t deps in
      let depended_more = announced_more k.run.depended t deps undepended in
      let r : Run = record k.run { announced = lists; depended = depended } in
      let F : ℕ → Knowledge → Type 0 = Fits key r in
      let w : Knowledge = with_cut v (announced_cut c t is) in
      let cut_more : (d : Cut) → IsCutOf key k.run d → IsCutOf key r d = λ d D. record {
        opening = D.opening;
        parts = D.parts;
        checked = D.checked;
        prefixes = D.prefixes;
        announced = λ u js e. more u js (D.announced u js e);
        depended = λ u ls e. depended_more u ls (D.depended u ls e);
        sound = D.sound;
      } in
      let still : (u : ℕ) → u ≢ t → announced_for (announced_cut c t is) u ≡ announced_for c u = announced_else (announced_for c) t is in
      let now : F id w = record {
        cuts = at_one (IsCutOf key r) (announced_cut c t is) (record {
          opening = C.opening;
          parts = C.parts;
          checked = C.checked;
          prefixes = C.prefixes;
          announced = λ u js e. dite (ℕ_discrete u t)
              (λ same. announced_here k.run.announced t is u same ∙ (sym (announced_here (announced_for c) t is u same) ∙ e))
              (λ apart. announced_else k.run.announced t is u apart ∙ C.announced u js (sym (still u apart) ∙ e));
          depended = λ u ls e. dite (ℕ_discrete u t)
              (λ same. announced_here k.run.depended t deps u same ∙ (sym (announced_here (dependencies_of c) t deps u same) ∙ e))
              (λ apart. announced_else k.run.depended t deps u apart ∙ C.depended u ls (sym (announced_else (dependencies_of c) t deps u apart) ∙ e));
          sound = sound_announced c t is fresh C.sound;
        });
        owns = λ p l h. (let q = mine.owns p l h in record { alone = q.alone; whole = q.whole });
        number = λ m e. (let q = mine.number m e in record {
          alone = q.alone;
          positive = q.positive;
          counted = q.counted;
          heard = λ u h. dite (ℕ_discrete u t)
              (λ same. announced_here (announced_for c) t is u same ∙ sym (announced_here k.run.announced t is u same))
              (λ apart. still u apart ∙ (q.heard u h ∙ sym (announced_else k.run.announced t is u apart)));
        });
        guest = λ m e. absurd (cc (e, alone));
        apart = λ m l e g same. cc (g, alone);
        seen = mine.seen;
      } in
      -- what another seat has heard of its own client is all that is announced still
      let hears : (j : ℕ) → j ≢ id → (d : Cut) (m : ℕ) → Holds k.run j d m → Holds r j d m = λ j apart d m q. record {
        alone = q.alone;
        positive = q.positive;
        counted = q.counted;
        heard = λ y g. dite (ℕ_discrete y t)
            (λ same. absurd (apart (sym q.alone ∙ (ap k.run.holder (sym g ∙ (ap client_number same ∙ mine_is)) ∙ o.alone))))
            (λ other. q.heard y g ∙ sym (announced_else k.run.announced t is y other));
      } in
      let others : (j : ℕ) (u : Knowledge) → j ≢ id → get_elem? s.views j ≡ some u → F j u = λ j u apart e. let f = k.each j u e in record {
        cuts = λ i d h. cut_more d (f.cuts i d h);
        owns = λ p l h. (let q = f.owns p l h in record { alone = q.alone; whole = q.whole });
        number = λ m h. hears j apart (known u) m (f.number m h);
        guest = λ m h. hears j apart (last_known u) m (f.guest m h);
        apart = f.apart;
        seen = f.seen;
      } in (
        w,
        keeps,
        tt,
        unmoved key s 0 id x w (record {
          run = r;
          words_are = k.words_are;
          wide = k.wide;
          legal = k.legal;
          chained = k.chained;
          few = k.few;
          most = k.most;
          named = λ u js e. dite (ℕ_discrete u t)
              (λ same. subst (λ (y : ℕ). y ≤ k.run.drawn) (sym (ap client_number same ∙ mine_is)) o.counted)
              (λ apart. k.named u js (sym (announced_else k.run.announced t is u apart) ∙ e));
          depends = λ u. also_some (t == u) deps is (k.run.depended u) (k.run.announced u) (k.depends u);
          each = set_each F s.views id w others now;
        }),
        refl,
      )

  -- ---- a seat draws a number

  -- the first word is how many numbers were drawn
  drawn_is : (words : List ℕ) (views : List Knowledge) (k : Agree key words views) → get_or words 0 0 ≡ k.run.drawn
  drawn_is words views k = ap (λ ws. get_or ws 0 0) k.words_are

  draw_hit : (id : ℕ) (v : Knowledge) (s : State ℕ Knowledge) (k : Keeps key s) (old new : ℕ) → get_elem? s.views id ≡ some v
      → v.cuts ≡ known v ∷ [] → v.guest ≡ None → old < key.sessions → new ≡ old + 1 → get_or s.words 0 0 ≡ old
      → Agree key (set s.words 0 new) (set s.views id (with_number v new))
  draw_hit id v s k old new at one alone room is found =
      let mine = k.each id v at in
      let c : Cut = known v in
      let C : IsCutOf key k.run c = mine.cuts 0 c (ap (λ cs. get_elem? cs 0) one) in
      let was : k.run.drawn ≡ old = sym (drawn_is s.words s.views k) ∙ found in
      let holder : ℕ → ℕ = given k.run.holder (Some new) id in
      let r : Run = record k.run { drawn = new; holder = holder } in
      let F : ℕ → Knowledge → Type 0 = Fits key r in
      let cut_of : (d : Cut) → IsCutOf key k.run d → IsCutOf key r d = same_cut key k.run new k.run.owner holder in
      let w : Knowledge = with_number v new in
      let holds : (j : ℕ) (d : Cut) (m : ℕ) → Holds k.run j d m → Holds r j d m = λ j d m q. (let le = q.counted in record {
        alone = given_else k.run.holder (Some new) id m (λ n e same. (let f : new ≡ n = cc (e) in omega arith)) ∙ q.alone;
        positive = q.positive;
        counted = omega arith;
        heard = q.heard;
      }) in
      record {
        run = r;
        words_are = ap (λ ws. set ws 0 new) k.words_are;
        wide = k.wide;
        legal = k.legal;
        chained = k.chained;
        few = k.few;
        most = omega arith;
        named = λ t js e. (let le = k.named t js e in omega arith);
        depends = k.depends;
        each = set_each F s.views id w
            (λ j u apart e. (let f = k.each j u e in record {
              cuts = λ i d h. cut_of d (f.cuts i d h);
              owns = λ p l h. same_owner k.run new k.run.announced holder j (known u) p (f.owns p l h);
              number = λ m h. holds j (known u) m (f.number m h);
              guest = λ m h. holds j (last_known u) m (f.guest m h);
              apart = f.apart;
              seen = (let le = f.seen in omega arith);
            }))
            (record {
              cuts = λ i d h. cut_of d (mine.cuts i d h);
              owns = λ p l h. same_owner k.run new k.run.announced holder id c p (mine.owns p l h);
              number = λ m e. (let same : new ≡ m = cc (e) in record {
                alone = given_here k.run.holder (Some new) id m e;
                positive = omega arith;
                counted = omega arith;
                heard = λ t h. ⊎_elim
                    (λ (o : (js : Announced) × (announced_for c t ≡ Some js)). o.1 ∙ sym (C.announced t o.0 o.1))
                    (λ (o : announced_for c t ≡ None). o ∙ ⊎_elim
                    (λ (r : (js : Announced) × (k.run.announced t ≡ Some js)). (let le = subst (λ (y : ℕ). y ≤ k.run.drawn) h (k.named t r.0 r.1) in absurd (omega arith)))
                    (λ (r : k.run.announced t ≡ None). sym r)
                    (some_or_none (k.run.announced t)))
                    (some_or_none (announced_for c t));
              });
              guest = λ m e. absurd (cc (e, alone));
              apart = λ m l e g same. cc (g, alone);
              seen = omega arith;
            });
      }

  -- nothing is announced of a client before its number is drawn
  unheard : (s : State ℕ Knowledge) (k : Keeps key s) (id : ℕ) (v : Knowledge) (new : ℕ) → get_elem? s.views id ≡ some v → v.cuts ≡ known v ∷ [] → k.run.drawn < new → IsUnheard new (known v)
  unheard s k id v new at one later t h = ⊎_elim
      (λ (o : (js : Announced) × (announced_for (known v) t ≡ Some js)). (let C = (k.each id v at).cuts 0 (known v) (ap (λ cs. get_elem? cs 0) one) in let le = subst (λ (y : ℕ). y ≤ k.run.drawn) h (k.named t o.0 (C.announced t o.0 o.1)) in absurd (omega arith)))
      (λ (o : announced_for (known v) t ≡ None). o)
      (some_or_none (announced_for (known v) t))

  pub draws : (slots id : ℕ) (v : Knowledge) (x : List (ℕ × ℕ)) (old new : ℕ) → v.cuts ≡ known v ∷ [] → v.guest ≡ None → old < key.sessions → new ≡ old + 1
      → Allows {S = ℕ} (Keeps key) slots id (v, x) 0 (λ n. either (n == old) new n) (Draws (step slots 0 old new none) (v, x))
  draws slots id v x old new one alone room is s k _ at _ =
      let mine = k.each id v at in
      let n : ℕ = get_or s.words 0 0 in
      let le : v.drawn ≤ n = (let a = mine.seen in let b = drawn_is s.words s.views k in omega arith) in
      dite (ℕ_discrete n old)
      (λ hit. (
        with_number v new,
        keeps,
        tt,
        subst (λ (b : Bool). Agree key (set s.words 0 (either b new n)) (set s.views id (with_number v new))) (sym (eq-eqb n old hit)) (draw_hit id v s k old new at one alone room is hit),
        (le, subst (λ (b : Bool). MatchBool b ((let w : Me ℕ Knowledge = (with_number v new, x) in w ≡ (with_number v new, x)) × IsUnheard new (known v)) (let w : Me ℕ Knowledge = (with_number v new, x) in w ≡ (with_drawn v n, x))) (sym (eq-eqb n old hit)) (refl, unheard s k id v new at one (let b = drawn_is s.words s.views k in omega arith))),
      ))
      (λ miss. (
        with_drawn v n,
        keeps,
        tt,
        subst (λ (b : Bool). Agree key (set s.words 0 (either b new n)) (set s.views id (with_drawn v n))) (sym (ne_eqb n old miss))
            (unmoved key s 0 id x (with_drawn v n) (same_run key s.words s.views (set s.views id (with_drawn v n)) k
            (set_each (Fits key k.run) s.views id (with_drawn v n) (λ j u _ e. k.each j u e)
            (record { cuts = mine.cuts; owns = mine.owns; number = mine.number; guest = mine.guest; apart = mine.apart; seen = (let b = drawn_is s.words s.views k in omega arith) })))),
        (le, subst (λ (b : Bool). MatchBool b ((let w : Me ℕ Knowledge = (with_drawn v n, x) in w ≡ (with_number v new, x)) × IsUnheard new (known v)) (let w : Me ℕ Knowledge = (with_drawn v n, x) in w ≡ (with_drawn v n, x))) (sym (ne_eqb n old miss)) refl),
      ))

  -- ---- a seat appends

  -- the word of partition p is the length of its history
  word_at : (words : List ℕ) (drawn : ℕ) (hs : List (List Mark)) (p : ℕ) → words ≡ drawn ∷ map length hs → get_or words (p + 1) 0 ≡ length (marks_at hs p)
  word_at words drawn hs p is = ap (λ ws. get_or ws (p + 1) 0) is ∙ (ap (λ q. get_or (drawn ∷ map length hs) q 0) (add-one p) ∙ get_or-map length hs p [])

  words_set : (words : List ℕ) (drawn : ℕ) (hs : List (List Mark)) (p n : ℕ) (h : List Mark) → words ≡ drawn ∷ map length hs → n ≡ length h → set words (p + 1) n ≡ drawn ∷ map length (set hs p h)
  words_set words drawn hs p n h is e = ap (λ ws. set ws (p + 1) n) is ∙ (ap (λ q. set (drawn ∷ map length hs) q n) (add-one p) ∙ (ap (λ m. drawn ∷ set (map length hs) p m) e ∙ ap (λ ms. drawn ∷ ms) (sym (map-set length hs p h))))

  pub appends : (slots id : ℕ) (v : Knowledge) (x : List (ℕ × ℕ)) (p : ℕ) (m : Mark)
      → v.cuts ≡ known v ∷ [] → v.guest ≡ None → v.low ≤ p → p < v.high → p < key.parts
      → length (prefix_at (known v) p) < key.limit → key.limit ≤ 1000000
      → MayAppend (known v).checked (prefix_at (known v) p) m → IsBacked (marked_cut (known v) p m) m
      → Allows {S = ℕ} (Keeps key) slots id (v, x) (p + 1) (λ n. (n + 1) % 2 ^ 64) (Appends m (step slots (p + 1) 1 0 none) (v, x))
  appends slots id v x p m one alone low high inside room small may back s k _ at _ =
      let mine = k.each id v at in
      let c : Cut = known v in
      let C : IsCutOf key k.run c = mine.cuts 0 c (ap (λ cs. get_elem? cs 0) one) in
      let own = mine.owns p low high in
      let h : List Mark = marks_at k.run.histories p in
      let is_h : prefix_at c p ≡ h = own.whole in
      let new : List Mark = h ++ m ∷ [] in
      let hs : List (List Mark) = set k.run.histories p new in
      let wide = k.wide in
      let inside_c : p < length c.prefixes = (let a = C.sound.wide in let b = C.parts in omega arith) in
      let here : marks_at hs p ≡ new = get_or-set_same k.run.histories p new [] (omega arith) in
      let kept_at : (q : ℕ) → q ≢ p → marks_at hs q ≡ marks_at k.run.histories q = λ q n. get_or-set_other k.run.histories p q new [] n in
      let grown : (q : ℕ) → IsPrefix (marks_at k.run.histories q) (marks_at hs q) = λ q. dite (ℕ_discrete q p)
      (λ e. subst (λ (y : ℕ). IsPrefix (marks_at k.run.histories y) (marks_at hs y)) (sym e) (m ∷ [], sym here))
      (λ n. subst (IsPrefix (marks_at k.run.histories q)) (sym (kept_at q n)) (prefix_self (marks_at k.run.histories q))) in
      let d : Cut = marked_cut c p m in
      let w : Knowledge = with_cut v d in
      let r : Run = record k.run { histories = hs } in
      let F : ℕ → Knowledge → Type 0 = Fits key r in
      let cut_more : (e : Cut) → IsCutOf key k.run e → IsCutOf key r e = λ e E. record {
        opening = E.opening;
        parts = E.parts;
        checked = E.checked;
        prefixes = λ q. prefix_trans (prefix_at e q) (marks_at k.run.histories q) (marks_at hs q) (E.prefixes q) (grown q);
        announced = E.announced;
        depended = E.depended;
        sound = E.sound;
      } in
      let at_p : prefix_at d p ≡ marks_at hs p = mark_here c p m inside_c ∙ (ap (λ y. y ++ m ∷ []) is_h ∙ sym here) in
      let now : F id w = record {
        cuts = at_one (IsCutOf key r) d (record {
          opening = C.opening;
          parts = C.parts;
          checked = C.checked;
          prefixes = λ q. dite (ℕ_discrete q p)
              (λ e. subst (λ (y : ℕ). IsPrefix (prefix_at d y) (marks_at hs y)) (sym e) (subst (IsPrefix (prefix_at d p)) at_p (prefix_self (prefix_at d p))))
              (λ n. subst (λ (y : List Mark). IsPrefix y (marks_at hs q)) (sym (mark_else c p q m n)) (prefix_trans (prefix_at c q) (marks_at k.run.histories q) (marks_at hs q) (C.prefixes q) (grown q)));
          announced = C.announced;
          depended = C.depended;
          sound = sound_marked c p m inside_c C.sound may back;
        });
        owns = λ q l g. (let o = mine.owns q l g in record {
          alone = o.alone;
          whole = dite (ℕ_discrete q p)
              (λ e. subst (λ (y : ℕ). prefix_at d y ≡ marks_at hs y) (sym e) at_p)
              (λ n. mark_else c p q m n ∙ (o.whole ∙ sym (kept_at q n)));
        });
        number = λ n e. (let o = mine.number n e in record { alone = o.alone; positive = o.positive; counted = o.counted; heard = o.heard });
        guest = λ n e. absurd (cc (e, alone));
        apart = mine.apart;
        seen = mine.seen;
      } in
      let others : (j : ℕ) (u : Knowledge) → j ≢ id → get_elem? s.views j ≡ some u → F j u = λ j u apart e. let f = k.each j u e in record {
        cuts = λ i y g. cut_more y (f.cuts i y g);
        owns = λ q l g. (let o = f.owns q l g in record { alone = o.alone; whole = o.whole ∙ sym (kept_at q (λ same. apart (sym o.alone ∙ (ap k.run.owner same ∙ own.alone)))) });
        number = λ n h. same_holder k.run hs k.run.owner j (known u) n (f.number n h);
        guest = λ n h. same_holder k.run hs k.run.owner j (last_known u) n (f.guest n h);
        apart = f.apart;
        seen = f.seen;
      } in
      let count : get_or s.words (p + 1) 0 ≡ length h = word_at s.words k.run.drawn k.run.histories p k.words_are in
      let same_len : length (prefix_at c p) ≡ length h = ap length is_h in
      let value : (get_or s.words (p + 1) 0 + 1) % 2 ^ 64 ≡ length new = (let e = length-append h (m ∷ []) in omega arith) in (
        w,
        keeps,
        tt,
        record {
          run = r;
          words_are = words_set s.words k.run.drawn k.run.histories p ((get_or s.words (p + 1) 0 + 1) % 2 ^ 64) new k.words_are value;
          wide = length-set k.run.histories p new ∙ k.wide;
          legal = λ q. dite (ℕ_discrete q p)
              (λ e. subst (λ (y : ℕ). is_legal (marks_at hs y) ≡ true) (sym e) (subst (λ (y : List Mark). is_legal y ≡ true) (sym here) (is_legal-push h m (k.legal p) (subst (λ (y : List Mark). may_follow y m ≡ true) is_h may.follows))))
              (λ n. subst (λ (y : List Mark). is_legal y ≡ true) (sym (kept_at q n)) (k.legal q));
          chained = λ q. dite (ℕ_discrete q p)
              (λ e. subst (λ (y : ℕ). IsChainedIf key.checked (marks_at hs y)) (sym e) (subst (IsChainedIf key.checked) (sym here)
              (λ on. is_chained-push h m (k.chained p on) (subst (λ (y : List Mark). extends y m ≡ true) is_h (may.chains (C.checked ∙ on))))))
              (λ n. subst (IsChainedIf key.checked) (sym (kept_at q n)) (k.chained q));
          few = λ q. dite (ℕ_discrete q p)
              (λ e. subst (λ (y : ℕ). length (marks_at hs y) ≤ key.limit) (sym e) (let g = ap length here in let f = length-append h (m ∷ []) in omega arith))
              (λ n. subst (λ (y : List Mark). length y ≤ key.limit) (sym (kept_at q n)) (k.few q));
          most = k.most;
          named = k.named;
          depends = k.depends;
          each = set_each F s.views id w others now;
        },
        ap (λ (q : ℕ). let z : Me ℕ Knowledge = (with_cut v (marked_cut c q m), x) in z) (omega arith),
      )
