-- What a channel has seen more. `PartitionChannel` cites `answers_joined` and the lemmas on `IsLater`.
use Rattle.std.proofs.Common.{◌≡◌, ◌≢◌, ℕ, ◌≤◌, true, List, [], ◌∷◌, ◌++◌, length, length-append, append-nil, Result, Ok, Err, refl, sym, ap, ◌∙◌, subst, ⊎_elim, arith, Some}
use Rattle.album_stamps.specs.declared.refusals.Refusal.{Refusal}
use Rattle.album_terminate.specs.declared.deciding.StampState.TheVariants as state
use Rattle.album_items.specs.ItemIds.{place_of}
use Rattle.album_partition.specs.Marks.{ArePending, state_of, is_full, latest, floor}
use Rattle.album_partition.specs.declared.marks.Mark.{Mark}
use Rattle.album_passes.specs.Changes.{merged, KeepsOwn}
use Rattle.album_passes.specs.Cuts.{Cut, prefix_at, IsPrefix, Extends}
use Rattle.album_passes.specs.Knowledge.{AreApart}
use Rattle.album_passes.specs.Pass.{PassState}
use Rattle.album_passes.proofs.CutLemmas.{extends_self, longer_at}
use Rattle.album_passes.proofs.PrefixLemmas.{longer_cases}
use Rattle.album_keepers.specs.Controls.{IsUntrimmed, Answers}
use Rattle.album_keepers.specs.Controls.IsUntrimmed.{Elsewhere, NoRoom}
use Rattle.album_keepers.specs.declared.control.Control.{Control}
use Rattle.album_keepers.specs.declared.control.Control.TheVariants.{Pending, History, Sweep, Trim}
use Rattle.album_keepers.specs.declared.control.ControlAnswer.{ControlAnswer}
use Rattle.album_keepers.specs.declared.control.ControlAnswer.TheVariants as answer
use Rattle.album_channels.specs.Channels.{ChannelState, IsLater}

-- ---- answers to control requests, once their passes are joined

-- a prefix that is no shorter is the whole
whole_prefix : (ms ns : List Mark) → IsPrefix ms ns → length ns ≤ length ms → ns ≡ ms
whole_prefix ms ns (later, e) l = sym e ∙ nothing later (let long = ap length (sym e) ∙ length-append ms later in omega arith)
  where
    nothing : (os : List Mark) → length os ≤ 0 → ms ++ os ≡ ms
    nothing [] k = append-nil ms
    nothing (o ∷ os) k = absurd (omega arith)

joined_prefix : (c d : Cut) (p : ℕ) → Extends d (merged c d) → length (prefix_at c p) ≤ length (prefix_at d p)
    → prefix_at (merged c d) p ≡ prefix_at d p
joined_prefix c d p x l = ⊎_elim
    (λ y. longer_at c.prefixes d.prefixes p ∙ y.1)
    (λ y. whole_prefix (prefix_at d p) (prefix_at (merged c d) p) (x.prefixes p)
    (subst (λ (ms : List Mark). length ms ≤ length (prefix_at d p)) (sym (longer_at c.prefixes d.prefixes p ∙ y.1)) l))
    (longer_cases (prefix_at c p) (prefix_at d p))

untrimmed_at : (limit : ℕ) (c d : Cut) (p i : ℕ) → prefix_at d p ≡ prefix_at c p → d.parts ≡ c.parts → (why : Refusal)
    → IsUntrimmed limit c p i why → IsUntrimmed limit d p i why
untrimmed_at limit c d p i same parts _ (Elsewhere other) = Elsewhere (subst (λ (n : ℕ). place_of n i ≢ p) (sym parts) other)
untrimmed_at limit c d p i same parts _ (NoRoom full) = NoRoom (subst (λ (ms : List Mark). is_full limit ms ≡ true) (sym same) full)

answers_at : (limit : ℕ) (c d : Cut) (p : ℕ) → prefix_at d p ≡ prefix_at c p → d.parts ≡ c.parts → (q : Control)
    (result : Result ControlAnswer Refusal) → Answers limit c p q result → Answers limit d p q result
answers_at limit c d p same parts Pending (Ok (answer.Pending stamps)) h = subst (λ (ms : List Mark). ArePending ms stamps) (sym same) h
answers_at limit c d p same parts Pending (Ok (answer.History made)) h = h
answers_at limit c d p same parts Pending (Ok answer.Swept) h = h
answers_at limit c d p same parts Pending (Ok answer.Trimmed) h = h
answers_at limit c d p same parts Pending (Err why) h = h
answers_at limit c d p same parts History (Ok (answer.Pending stamps)) h = h
answers_at limit c d p same parts History (Ok (answer.History made)) h = h ∙ sym same
answers_at limit c d p same parts History (Ok answer.Swept) h = h
answers_at limit c d p same parts History (Ok answer.Trimmed) h = h
answers_at limit c d p same parts History (Err why) h = h
answers_at limit c d p same parts (Sweep t) (Ok (answer.Pending stamps)) h = h
answers_at limit c d p same parts (Sweep t) (Ok (answer.History made)) h = h
answers_at limit c d p same parts (Sweep t) (Ok answer.Trimmed) h = h
answers_at limit c d p same parts (Sweep t) (Ok answer.Swept) h = subst (λ (ms : List Mark). state_of ms t ≡ state.Pending) (sym same) h
answers_at limit c d p same parts (Sweep t) (Err why) h = λ n. ((h n).0, subst (λ (ms : List Mark). state_of ms t ≢ state.Pending) (sym same) (h n).1)
answers_at limit c d p same parts (Trim i) (Ok (answer.Pending stamps)) h = h
answers_at limit c d p same parts (Trim i) (Ok (answer.History made)) h = h
answers_at limit c d p same parts (Trim i) (Ok answer.Swept) h = h
answers_at limit c d p same parts (Trim i) (Ok answer.Trimmed) h = subst (λ (ms : List Mark). floor ms i ≡ latest ms i) (sym same) h
answers_at limit c d p same parts (Trim i) (Err why) h = λ n. untrimmed_at limit c d p i same parts why (h n)

pub answers_joined : (limit : ℕ) (b c d : Cut) (p : ℕ) → d ≡ merged b c → Extends c d → length (prefix_at b p) ≤ length (prefix_at c p)
    → (q : Control) (result : Result ControlAnswer Refusal) → Answers limit c p q result → Answers limit d p q result
answers_joined limit b c d p is x l q result h =
    answers_at limit c d p
    (ap (λ (e : Cut). prefix_at e p) is ∙ joined_prefix b c p (subst (λ (e : Cut). Extends c e) is x) l)
    x.parts q result h

-- ---- what was seen later

later_self : (a : ChannelState) → IsLater a a
later_self a = record { client = refl; grown = extends_self a.cut; own = λ n t is own. refl }

pub later_same : (a b : ChannelState) → b ≡ a → IsLater a b
later_same a b e = subst (λ (c : ChannelState). IsLater a c) (sym e) (later_self a)

-- a channel with this client and this pass has seen more with another pass that extends it
pub later_joined : (a : ChannelState) (n : ℕ) (p q : PassState) → record { client = n; cut = p.cut } ≡ a → p.number ≡ Some n
    → Extends p.cut q.cut → KeepsOwn p.number p.cut q.cut → IsLater a (record { client = n; cut = q.cut })
later_joined a n p q view is x own =
    subst (λ (b : ChannelState). IsLater b (record { client = n; cut = q.cut })) view
    (record { client = refl; grown = x; own = λ m t f g. own m t (is ∙ f) g })

-- ---- two sessions

-- whose passes have other numbers, are other clients
pub clients_apart : (one other : ChannelState) (mine theirs : ℕ) (cut more : Cut) (p q : PassState) → AreApart p.number q.number
    → p.number ≡ Some mine → q.number ≡ Some theirs → record { client = mine; cut = cut } ≡ one
    → record { client = theirs; cut = more } ≡ other → one.client ≢ other.client
clients_apart one other mine theirs cut more p q apart e f is are = λ same.
    let a : mine ≡ one.client = ap (λ (k : ChannelState). k.client) is in
    let b : theirs ≡ other.client = ap (λ (k : ChannelState). k.client) are in
    apart mine theirs e f (a ∙ same ∙ sym b)
