-- The members of an object, taken one by one, and the shape that their fields make. For `judge_tokens`.
use Rattle.std.proofs.Common.{MatchOption, ◌≡◌, ◌<◌, ◌-◌, ◌&&◌, ℕ, List, [], ◌∷◌, length, map, codes, bytes_eq, Bool, true, false, cond, Option, Some, None, option_map, unwrap_or, Result, Ok, IfSome, Vec, Global, Bor, refl, sym, ap, ◌∙◌, subst, arith}
use Rattle.std.specs.Option.{ok_or}
use Rattle.std.specs.Str.{IsUtf8}
use Rattle.std.proofs.lemmas.Bool.{and_parts, and_from}
use Rattle.std.proofs.lemmas.Slice.Eq.{bytes_eq-Decides}
use Rattle.json.specs.Token.{Token}
use Rattle.json.specs.Json as json
use Rattle.json.specs.Json.{read_key}
use Rattle.json.specs.Lex.{tokens}
use Rattle.json.specs.Find.{get_member, later_or}
use Rattle.json.proofs.Grammar.{members_end, members_more, read_key-shorter, value-begin_object}
use Rattle.serde_json.specs.Data.{Data, Members, no_members, put}
use Rattle.serde_json.specs.Find.{get}
use Rattle.serde_json.specs.Read.{read, max_depth}
use Rattle.album_stamps.specs.declared.refusals.Refusal.{Refusal}
use Rattle.album_stamps.specs.declared.refusals.Refusal.TheVariants.{BadRequest}
use Rattle.album_stamps.specs.Outcome.{◌>>=◌}
use Rattle.album_lists.specs.declared.lists.Holder.{Holder}
use Rattle.album_lists.specs.declared.lists.Holder.TheVariants.{Plain}
use Rattle.album_eval.specs.declared.policies.Policy.{Policy}
use Rattle.album_eval.specs.declared.policies.Policy.TheVariants.{One}
use Rattle.album_lines.specs.Fields.{guard, is_among, has_only, only_of, field_of, text_of, whole_of}
use Rattle.album_lines.specs.Shapes.{spelled_entry, entry_shapes_of}
use Rattle.album_lines.specs.declared.shapes.EntryShape.{EntryShape}
use Rattle.album_lines.specs.declared.judge_shape.GroupShape.{GroupShape}
use Rattle.album_lines.specs.declared.judge_shape.JudgeShape.{JudgeShape}
use Rattle.album_lines.specs.declared.judge_tokens.Fields.{Fields}
use Rattle.album_lines.specs.JudgeShape.{SpelledJudge, spelled_group, spelled_judge, judge_keys, groups_shape_of, kind_shape_of, policy_shape_of, judge_shape_of}
use Rattle.album_lines.specs.Trees.{is_in_range, hold_in_range, data_in, members_in}
use Rattle.album_lines.specs.Tokens.{Begins, BeginMembers, Takes, are_named, with_last, IsField, AreFields, TakesField, TakesFields, line_shape_of}
use Rattle.album_lines.proofs.Reading.{member_in, only_put}
use Rattle.album_lines.proofs.LineValues.{data_read, one_read}
use Rattle.album_lines.proofs.Taking.{shorter, deeper}

-- ---- one member more

last_or_none : (o : Option json.Json) → o ≡ later_or o None
last_or_none None = refl
last_or_none (Some j) = refl

later_of_three : (a b c : Option json.Json) → later_or (later_or a b) c ≡ later_or a (later_or b c)
later_of_three None b c = refl
later_of_three (Some j) b c = refl

member_last : (k name : List ℕ) (j : json.Json) (ms : json.Members)
    → get_member name (with_last ms k j) ≡ later_or (cond (bytes_eq k name) (Some j) None) (get_member name ms)
member_last k name j json.no_members = last_or_none (cond (bytes_eq k name) (Some j) None)
member_last k name j (json.member l i ms) =
    ap (λ o. later_or o (cond (bytes_eq l name) (Some i) None)) (member_last k name j ms)
    ∙ later_of_three (cond (bytes_eq k name) (Some j) None) (get_member name ms) (cond (bytes_eq l name) (Some i) None)

in_range_last : (k : List ℕ) (j : json.Json) (ms : json.Members)
    → hold_in_range ms ≡ true
    → is_in_range j ≡ true
    → hold_in_range (with_last ms k j) ≡ true
in_range_last k j json.no_members all one = and_from _ _ one refl
in_range_last k j (json.member l i ms) all one =
    let both = and_parts _ _ all in and_from _ _ both.0 (in_range_last k j ms both.1 one)

named_last : (names : List (List ℕ)) (k : List ℕ) (j : json.Json) (ms : json.Members)
    → are_named names ms ≡ true
    → is_among names k ≡ true
    → are_named names (with_last ms k j) ≡ true
named_last names k j json.no_members all one = and_from _ _ one refl
named_last names k j (json.member l i ms) all one =
    let both = and_parts _ _ all in and_from _ _ both.0 (named_last names k j ms both.1 one)

-- the member's own field
new_field : {A B : Type 0} (read : Data → Result B Refusal) (view : A → B) (name : List ℕ) (ms : json.Members) (j : json.Json) (a : A)
    → read (data_in j) ≡ Ok (view a)
    → IsField read view name (with_last ms name j) (Some a)
new_field read view name ms j a e =
    let same : bytes_eq name name ≡ true = (bytes_eq-Decides name name).1 refl in
    (j, member_last name name j ms ∙ ap (λ b. later_or (cond b (Some j) None) (get_member name ms)) same, e)

-- another field
old_field : {A B : Type 0} (read : Data → Result B Refusal) (view : A → B) (k name : List ℕ) (ms : json.Members) (j : json.Json) (o : Option A)
    → bytes_eq k name ≡ false
    → IsField read view name ms o
    → IsField read view name (with_last ms k j) o
old_field read view k name ms j None other is =
    member_last k name j ms ∙ ap (λ b. later_or (cond b (Some j) None) (get_member name ms)) other ∙ is
old_field read view k name ms j (Some a) other is = (
  is.0,
  member_last k name j ms ∙ ap (λ b. later_or (cond b (Some j) None) (get_member name ms)) other ∙ is.1,
  is.2,
)

-- ---- each field

abbrev pub with_entries : Fields → Vec EntryShape Global → Fields
with_entries f x = record {
  entries = Some x;
  holder = f.holder;
  head_group = f.head_group;
  groups = f.groups;
  owner = f.owner;
  who = f.who;
  mask = f.mask;
  policy = f.policy;
}

are_with_entries : (ms : json.Members) (f : Fields) (j : json.Json) (x : Vec EntryShape Global)
    → is_in_range j ≡ true
    → entry_shapes_of (data_in j) ≡ Ok ((λ (v : Vec EntryShape Global). map spelled_entry v.items) x)
    → AreFields ms f
    → AreFields (with_last ms (codes "entries") j) (with_entries f x)
are_with_entries ms f j x one e are = record {
  in_range = in_range_last (codes "entries") j ms are.in_range one;
  named = named_last judge_keys (codes "entries") j ms are.named refl;
  entries = new_field entry_shapes_of (λ (v : Vec EntryShape Global). map spelled_entry v.items) (codes "entries") ms j x e;
  holder = old_field (λ (d : Data). kind_shape_of (Some d)) (λ (h : Holder). h) (codes "entries") (codes "kind") ms j f.holder refl are.holder;
  head_group = old_field whole_of (λ (n : ℕ). n) (codes "entries") (codes "group") ms j f.head_group refl are.head_group;
  groups = old_field (λ (d : Data). groups_shape_of (Some d)) (λ (v : Vec GroupShape Global). map spelled_group v.items) (codes "entries") (codes "groups") ms j f.groups refl are.groups;
  owner = old_field text_of (λ (t : Bor (List ℕ)). t.now) (codes "entries") (codes "owner") ms j f.owner refl are.owner;
  who = old_field text_of (λ (t : Bor (List ℕ)). t.now) (codes "entries") (codes "who") ms j f.who refl are.who;
  mask = old_field whole_of (λ (n : ℕ). n) (codes "entries") (codes "mask") ms j f.mask refl are.mask;
  policy = old_field (λ (d : Data). policy_shape_of (Some d)) (λ (p : Policy). p) (codes "entries") (codes "policy") ms j f.policy refl are.policy;
}

pub takes_entries : (k : List ℕ) (ts rest : List Token) (f : Fields) (x : Vec EntryShape Global)
    → k ≡ codes "entries"
    → Takes 2 entry_shapes_of ts ((λ (v : Vec EntryShape Global). map spelled_entry v.items) x) rest
    → TakesField k ts rest f (with_entries f x)
takes_entries k ts rest f x e t =
    subst (λ name. TakesField name ts rest f (with_entries f x)) (sym e)
    (t.0, deeper 2 3 ts rest t.0 (omega arith) t.1, λ ms are. are_with_entries ms f t.0 x t.2 t.3 are)

abbrev pub with_holder : Fields → Holder → Fields
with_holder f x = record {
  entries = f.entries;
  holder = Some x;
  head_group = f.head_group;
  groups = f.groups;
  owner = f.owner;
  who = f.who;
  mask = f.mask;
  policy = f.policy;
}

are_with_holder : (ms : json.Members) (f : Fields) (j : json.Json) (x : Holder)
    → is_in_range j ≡ true
    → (λ (d : Data). kind_shape_of (Some d)) (data_in j) ≡ Ok ((λ (h : Holder). h) x)
    → AreFields ms f
    → AreFields (with_last ms (codes "kind") j) (with_holder f x)
are_with_holder ms f j x one e are = record {
  in_range = in_range_last (codes "kind") j ms are.in_range one;
  named = named_last judge_keys (codes "kind") j ms are.named refl;
  entries = old_field entry_shapes_of (λ (v : Vec EntryShape Global). map spelled_entry v.items) (codes "kind") (codes "entries") ms j f.entries refl are.entries;
  holder = new_field (λ (d : Data). kind_shape_of (Some d)) (λ (h : Holder). h) (codes "kind") ms j x e;
  head_group = old_field whole_of (λ (n : ℕ). n) (codes "kind") (codes "group") ms j f.head_group refl are.head_group;
  groups = old_field (λ (d : Data). groups_shape_of (Some d)) (λ (v : Vec GroupShape Global). map spelled_group v.items) (codes "kind") (codes "groups") ms j f.groups refl are.groups;
  owner = old_field text_of (λ (t : Bor (List ℕ)). t.now) (codes "kind") (codes "owner") ms j f.owner refl are.owner;
  who = old_field text_of (λ (t : Bor (List ℕ)). t.now) (codes "kind") (codes "who") ms j f.who refl are.who;
  mask = old_field whole_of (λ (n : ℕ). n) (codes "kind") (codes "mask") ms j f.mask refl are.mask;
  policy = old_field (λ (d : Data). policy_shape_of (Some d)) (λ (p : Policy). p) (codes "kind") (codes "policy") ms j f.policy refl are.policy;
}

pub takes_holder : (k : List ℕ) (ts rest : List Token) (f : Fields) (x : Holder)
    → k ≡ codes "kind"
    → Takes 0 (λ (d : Data). kind_shape_of (Some d)) ts ((λ (h : Holder). h) x) rest
    → TakesField k ts rest f (with_holder f x)
takes_holder k ts rest f x e t =
    subst (λ name. TakesField name ts rest f (with_holder f x)) (sym e)
    (t.0, deeper 0 3 ts rest t.0 (omega arith) t.1, λ ms are. are_with_holder ms f t.0 x t.2 t.3 are)

abbrev pub with_head_group : Fields → ℕ → Fields
with_head_group f x = record {
  entries = f.entries;
  holder = f.holder;
  head_group = Some x;
  groups = f.groups;
  owner = f.owner;
  who = f.who;
  mask = f.mask;
  policy = f.policy;
}

are_with_head_group : (ms : json.Members) (f : Fields) (j : json.Json) (x : ℕ)
    → is_in_range j ≡ true
    → whole_of (data_in j) ≡ Ok ((λ (n : ℕ). n) x)
    → AreFields ms f
    → AreFields (with_last ms (codes "group") j) (with_head_group f x)
are_with_head_group ms f j x one e are = record {
  in_range = in_range_last (codes "group") j ms are.in_range one;
  named = named_last judge_keys (codes "group") j ms are.named refl;
  entries = old_field entry_shapes_of (λ (v : Vec EntryShape Global). map spelled_entry v.items) (codes "group") (codes "entries") ms j f.entries refl are.entries;
  holder = old_field (λ (d : Data). kind_shape_of (Some d)) (λ (h : Holder). h) (codes "group") (codes "kind") ms j f.holder refl are.holder;
  head_group = new_field whole_of (λ (n : ℕ). n) (codes "group") ms j x e;
  groups = old_field (λ (d : Data). groups_shape_of (Some d)) (λ (v : Vec GroupShape Global). map spelled_group v.items) (codes "group") (codes "groups") ms j f.groups refl are.groups;
  owner = old_field text_of (λ (t : Bor (List ℕ)). t.now) (codes "group") (codes "owner") ms j f.owner refl are.owner;
  who = old_field text_of (λ (t : Bor (List ℕ)). t.now) (codes "group") (codes "who") ms j f.who refl are.who;
  mask = old_field whole_of (λ (n : ℕ). n) (codes "group") (codes "mask") ms j f.mask refl are.mask;
  policy = old_field (λ (d : Data). policy_shape_of (Some d)) (λ (p : Policy). p) (codes "group") (codes "policy") ms j f.policy refl are.policy;
}

pub takes_head_group : (k : List ℕ) (ts rest : List Token) (f : Fields) (x : ℕ)
    → k ≡ codes "group"
    → Takes 0 whole_of ts ((λ (n : ℕ). n) x) rest
    → TakesField k ts rest f (with_head_group f x)
takes_head_group k ts rest f x e t =
    subst (λ name. TakesField name ts rest f (with_head_group f x)) (sym e)
    (t.0, deeper 0 3 ts rest t.0 (omega arith) t.1, λ ms are. are_with_head_group ms f t.0 x t.2 t.3 are)

abbrev pub with_groups : Fields → Vec GroupShape Global → Fields
with_groups f x = record {
  entries = f.entries;
  holder = f.holder;
  head_group = f.head_group;
  groups = Some x;
  owner = f.owner;
  who = f.who;
  mask = f.mask;
  policy = f.policy;
}

are_with_groups : (ms : json.Members) (f : Fields) (j : json.Json) (x : Vec GroupShape Global)
    → is_in_range j ≡ true
    → (λ (d : Data). groups_shape_of (Some d)) (data_in j) ≡ Ok ((λ (v : Vec GroupShape Global). map spelled_group v.items) x)
    → AreFields ms f
    → AreFields (with_last ms (codes "groups") j) (with_groups f x)
are_with_groups ms f j x one e are = record {
  in_range = in_range_last (codes "groups") j ms are.in_range one;
  named = named_last judge_keys (codes "groups") j ms are.named refl;
  entries = old_field entry_shapes_of (λ (v : Vec EntryShape Global). map spelled_entry v.items) (codes "groups") (codes "entries") ms j f.entries refl are.entries;
  holder = old_field (λ (d : Data). kind_shape_of (Some d)) (λ (h : Holder). h) (codes "groups") (codes "kind") ms j f.holder refl are.holder;
  head_group = old_field whole_of (λ (n : ℕ). n) (codes "groups") (codes "group") ms j f.head_group refl are.head_group;
  groups = new_field (λ (d : Data). groups_shape_of (Some d)) (λ (v : Vec GroupShape Global). map spelled_group v.items) (codes "groups") ms j x e;
  owner = old_field text_of (λ (t : Bor (List ℕ)). t.now) (codes "groups") (codes "owner") ms j f.owner refl are.owner;
  who = old_field text_of (λ (t : Bor (List ℕ)). t.now) (codes "groups") (codes "who") ms j f.who refl are.who;
  mask = old_field whole_of (λ (n : ℕ). n) (codes "groups") (codes "mask") ms j f.mask refl are.mask;
  policy = old_field (λ (d : Data). policy_shape_of (Some d)) (λ (p : Policy). p) (codes "groups") (codes "policy") ms j f.policy refl are.policy;
}

pub takes_groups : (k : List ℕ) (ts rest : List Token) (f : Fields) (x : Vec GroupShape Global)
    → k ≡ codes "groups"
    → Takes 3 (λ (d : Data). groups_shape_of (Some d)) ts ((λ (v : Vec GroupShape Global). map spelled_group v.items) x) rest
    → TakesField k ts rest f (with_groups f x)
takes_groups k ts rest f x e t =
    subst (λ name. TakesField name ts rest f (with_groups f x)) (sym e)
    (t.0, deeper 3 3 ts rest t.0 (omega arith) t.1, λ ms are. are_with_groups ms f t.0 x t.2 t.3 are)

abbrev pub with_owner : Fields → Bor (List ℕ) → Fields
with_owner f x = record {
  entries = f.entries;
  holder = f.holder;
  head_group = f.head_group;
  groups = f.groups;
  owner = Some x;
  who = f.who;
  mask = f.mask;
  policy = f.policy;
}

are_with_owner : (ms : json.Members) (f : Fields) (j : json.Json) (x : Bor (List ℕ))
    → is_in_range j ≡ true
    → text_of (data_in j) ≡ Ok ((λ (t : Bor (List ℕ)). t.now) x)
    → AreFields ms f
    → AreFields (with_last ms (codes "owner") j) (with_owner f x)
are_with_owner ms f j x one e are = record {
  in_range = in_range_last (codes "owner") j ms are.in_range one;
  named = named_last judge_keys (codes "owner") j ms are.named refl;
  entries = old_field entry_shapes_of (λ (v : Vec EntryShape Global). map spelled_entry v.items) (codes "owner") (codes "entries") ms j f.entries refl are.entries;
  holder = old_field (λ (d : Data). kind_shape_of (Some d)) (λ (h : Holder). h) (codes "owner") (codes "kind") ms j f.holder refl are.holder;
  head_group = old_field whole_of (λ (n : ℕ). n) (codes "owner") (codes "group") ms j f.head_group refl are.head_group;
  groups = old_field (λ (d : Data). groups_shape_of (Some d)) (λ (v : Vec GroupShape Global). map spelled_group v.items) (codes "owner") (codes "groups") ms j f.groups refl are.groups;
  owner = new_field text_of (λ (t : Bor (List ℕ)). t.now) (codes "owner") ms j x e;
  who = old_field text_of (λ (t : Bor (List ℕ)). t.now) (codes "owner") (codes "who") ms j f.who refl are.who;
  mask = old_field whole_of (λ (n : ℕ). n) (codes "owner") (codes "mask") ms j f.mask refl are.mask;
  policy = old_field (λ (d : Data). policy_shape_of (Some d)) (λ (p : Policy). p) (codes "owner") (codes "policy") ms j f.policy refl are.policy;
}

pub takes_owner : (k : List ℕ) (ts rest : List Token) (f : Fields) (x : Bor (List ℕ))
    → k ≡ codes "owner"
    → Takes 0 text_of ts ((λ (t : Bor (List ℕ)). t.now) x) rest
    → TakesField k ts rest f (with_owner f x)
takes_owner k ts rest f x e t =
    subst (λ name. TakesField name ts rest f (with_owner f x)) (sym e)
    (t.0, deeper 0 3 ts rest t.0 (omega arith) t.1, λ ms are. are_with_owner ms f t.0 x t.2 t.3 are)

abbrev pub with_who : Fields → Bor (List ℕ) → Fields
with_who f x = record {
  entries = f.entries;
  holder = f.holder;
  head_group = f.head_group;
  groups = f.groups;
  owner = f.owner;
  who = Some x;
  mask = f.mask;
  policy = f.policy;
}

are_with_who : (ms : json.Members) (f : Fields) (j : json.Json) (x : Bor (List ℕ))
    → is_in_range j ≡ true
    → text_of (data_in j) ≡ Ok ((λ (t : Bor (List ℕ)). t.now) x)
    → AreFields ms f
    → AreFields (with_last ms (codes "who") j) (with_who f x)
are_with_who ms f j x one e are = record {
  in_range = in_range_last (codes "who") j ms are.in_range one;
  named = named_last judge_keys (codes "who") j ms are.named refl;
  entries = old_field entry_shapes_of (λ (v : Vec EntryShape Global). map spelled_entry v.items) (codes "who") (codes "entries") ms j f.entries refl are.entries;
  holder = old_field (λ (d : Data). kind_shape_of (Some d)) (λ (h : Holder). h) (codes "who") (codes "kind") ms j f.holder refl are.holder;
  head_group = old_field whole_of (λ (n : ℕ). n) (codes "who") (codes "group") ms j f.head_group refl are.head_group;
  groups = old_field (λ (d : Data). groups_shape_of (Some d)) (λ (v : Vec GroupShape Global). map spelled_group v.items) (codes "who") (codes "groups") ms j f.groups refl are.groups;
  owner = old_field text_of (λ (t : Bor (List ℕ)). t.now) (codes "who") (codes "owner") ms j f.owner refl are.owner;
  who = new_field text_of (λ (t : Bor (List ℕ)). t.now) (codes "who") ms j x e;
  mask = old_field whole_of (λ (n : ℕ). n) (codes "who") (codes "mask") ms j f.mask refl are.mask;
  policy = old_field (λ (d : Data). policy_shape_of (Some d)) (λ (p : Policy). p) (codes "who") (codes "policy") ms j f.policy refl are.policy;
}

pub takes_who : (k : List ℕ) (ts rest : List Token) (f : Fields) (x : Bor (List ℕ))
    → k ≡ codes "who"
    → Takes 0 text_of ts ((λ (t : Bor (List ℕ)). t.now) x) rest
    → TakesField k ts rest f (with_who f x)
takes_who k ts rest f x e t =
    subst (λ name. TakesField name ts rest f (with_who f x)) (sym e)
    (t.0, deeper 0 3 ts rest t.0 (omega arith) t.1, λ ms are. are_with_who ms f t.0 x t.2 t.3 are)

abbrev pub with_mask : Fields → ℕ → Fields
with_mask f x = record {
  entries = f.entries;
  holder = f.holder;
  head_group = f.head_group;
  groups = f.groups;
  owner = f.owner;
  who = f.who;
  mask = Some x;
  policy = f.policy;
}

are_with_mask : (ms : json.Members) (f : Fields) (j : json.Json) (x : ℕ)
    → is_in_range j ≡ true
    → whole_of (data_in j) ≡ Ok ((λ (n : ℕ). n) x)
    → AreFields ms f
    → AreFields (with_last ms (codes "mask") j) (with_mask f x)
are_with_mask ms f j x one e are = record {
  in_range = in_range_last (codes "mask") j ms are.in_range one;
  named = named_last judge_keys (codes "mask") j ms are.named refl;
  entries = old_field entry_shapes_of (λ (v : Vec EntryShape Global). map spelled_entry v.items) (codes "mask") (codes "entries") ms j f.entries refl are.entries;
  holder = old_field (λ (d : Data). kind_shape_of (Some d)) (λ (h : Holder). h) (codes "mask") (codes "kind") ms j f.holder refl are.holder;
  head_group = old_field whole_of (λ (n : ℕ). n) (codes "mask") (codes "group") ms j f.head_group refl are.head_group;
  groups = old_field (λ (d : Data). groups_shape_of (Some d)) (λ (v : Vec GroupShape Global). map spelled_group v.items) (codes "mask") (codes "groups") ms j f.groups refl are.groups;
  owner = old_field text_of (λ (t : Bor (List ℕ)). t.now) (codes "mask") (codes "owner") ms j f.owner refl are.owner;
  who = old_field text_of (λ (t : Bor (List ℕ)). t.now) (codes "mask") (codes "who") ms j f.who refl are.who;
  mask = new_field whole_of (λ (n : ℕ). n) (codes "mask") ms j x e;
  policy = old_field (λ (d : Data). policy_shape_of (Some d)) (λ (p : Policy). p) (codes "mask") (codes "policy") ms j f.policy refl are.policy;
}

pub takes_mask : (k : List ℕ) (ts rest : List Token) (f : Fields) (x : ℕ)
    → k ≡ codes "mask"
    → Takes 0 whole_of ts ((λ (n : ℕ). n) x) rest
    → TakesField k ts rest f (with_mask f x)
takes_mask k ts rest f x e t =
    subst (λ name. TakesField name ts rest f (with_mask f x)) (sym e)
    (t.0, deeper 0 3 ts rest t.0 (omega arith) t.1, λ ms are. are_with_mask ms f t.0 x t.2 t.3 are)

abbrev pub with_policy : Fields → Policy → Fields
with_policy f x = record {
  entries = f.entries;
  holder = f.holder;
  head_group = f.head_group;
  groups = f.groups;
  owner = f.owner;
  who = f.who;
  mask = f.mask;
  policy = Some x;
}

are_with_policy : (ms : json.Members) (f : Fields) (j : json.Json) (x : Policy)
    → is_in_range j ≡ true
    → (λ (d : Data). policy_shape_of (Some d)) (data_in j) ≡ Ok ((λ (p : Policy). p) x)
    → AreFields ms f
    → AreFields (with_last ms (codes "policy") j) (with_policy f x)
are_with_policy ms f j x one e are = record {
  in_range = in_range_last (codes "policy") j ms are.in_range one;
  named = named_last judge_keys (codes "policy") j ms are.named refl;
  entries = old_field entry_shapes_of (λ (v : Vec EntryShape Global). map spelled_entry v.items) (codes "policy") (codes "entries") ms j f.entries refl are.entries;
  holder = old_field (λ (d : Data). kind_shape_of (Some d)) (λ (h : Holder). h) (codes "policy") (codes "kind") ms j f.holder refl are.holder;
  head_group = old_field whole_of (λ (n : ℕ). n) (codes "policy") (codes "group") ms j f.head_group refl are.head_group;
  groups = old_field (λ (d : Data). groups_shape_of (Some d)) (λ (v : Vec GroupShape Global). map spelled_group v.items) (codes "policy") (codes "groups") ms j f.groups refl are.groups;
  owner = old_field text_of (λ (t : Bor (List ℕ)). t.now) (codes "policy") (codes "owner") ms j f.owner refl are.owner;
  who = old_field text_of (λ (t : Bor (List ℕ)). t.now) (codes "policy") (codes "who") ms j f.who refl are.who;
  mask = old_field whole_of (λ (n : ℕ). n) (codes "policy") (codes "mask") ms j f.mask refl are.mask;
  policy = new_field (λ (d : Data). policy_shape_of (Some d)) (λ (p : Policy). p) (codes "policy") ms j x e;
}

pub takes_policy : (k : List ℕ) (ts rest : List Token) (f : Fields) (x : Policy)
    → k ≡ codes "policy"
    → Takes 0 (λ (d : Data). policy_shape_of (Some d)) ts ((λ (p : Policy). p) x) rest
    → TakesField k ts rest f (with_policy f x)
takes_policy k ts rest f x e t =
    subst (λ name. TakesField name ts rest f (with_policy f x)) (sym e)
    (t.0, deeper 0 3 ts rest t.0 (omega arith) t.1, λ ms are. are_with_policy ms f t.0 x t.2 t.3 are)

-- ---- the loop over the members: what was taken comes before what is taken of the rest

abbrev pub onto : json.Members → json.Members → json.Members
onto json.no_members ms = ms
onto (json.member k j front) ms = json.member k j (onto front ms)

onto_none : (front : json.Members) → onto front json.no_members ≡ front
onto_none json.no_members = refl
onto_none (json.member k j front) = ap (json.member k j) (onto_none front)

onto_last : (front ms : json.Members) (k : List ℕ) (j : json.Json)
    → onto front (json.member k j ms) ≡ onto (with_last front k j) ms
onto_last json.no_members ms k j = refl
onto_last (json.member l i front) ms k j = ap (json.member l i) (onto_last front ms k j)

-- the fields so far, on the way from the first token to these
abbrev pub TakesSoFar : List Token → List Token → Fields → Type 0
TakesSoFar first ts f =
    (front : json.Members) × AreFields front f
    × ((ms : json.Members) (rest : List Token) → BeginMembers 3 ts ms rest → BeginMembers 3 first (onto front ms) rest)

pub no_fields : (ts : List Token) (f : Fields)
    → f ≡ record { entries = None; holder = None; head_group = None; groups = None; owner = None; who = None; mask = None; policy = None }
    → TakesSoFar ts ts f
no_fields ts f e =
    let are : AreFields json.no_members (record { entries = None; holder = None; head_group = None; groups = None; owner = None; who = None; mask = None; policy = None }) = record {
      in_range = refl;
      named = refl;
      entries = refl;
      holder = refl;
      head_group = refl;
      groups = refl;
      owner = refl;
      who = refl;
      mask = refl;
      policy = refl;
    } in
    subst (TakesSoFar ts ts) (sym e) (json.no_members, are, λ ms rest b. b)

more_members : (ts s mid rest : List Token) (k : List ℕ) (j : json.Json) (ms : json.Members)
    → read_key ts ≡ Some (Some k, s)
    → Begins 3 s j mid
    → BeginMembers 3 mid ms rest
    → BeginMembers 3 ts (json.member k j ms) rest
more_members ts s mid rest k j ms key b bs = λ depth n le many.
    let less : length mid < length s = shorter 3 s mid j b in
    let lesser : length s < length ts = read_key-shorter ts (Some k) s key in
    members_more (json.value depth) n k ts s mid j (omega (arith, less, lesser, many)) key (b depth le)
    ∙ ap (json.parse_map (json.member k j)) (bs depth (n - 1) le (omega (arith, less, lesser, many)))

pub one_more_field : (first ts s mid : List Token) (k : List ℕ) (f g : Fields)
    → TakesSoFar first ts f
    → read_key ts ≡ Some (Some k, s)
    → TakesField k s mid f g
    → TakesSoFar first mid g
one_more_field first ts s mid k f g before key t = (
  with_last before.0 k t.0,
  t.2 before.0 before.1,
  λ ms rest bs. subst (λ all. BeginMembers 3 first all rest) (onto_last before.0 ms k t.0)
      (before.2 (json.member k t.0 ms) rest (more_members ts s mid rest k t.0 ms key t.1 bs)),
)

pub fewer_tokens : (ts s mid : List Token) (k : List ℕ) (f g : Fields)
    → read_key ts ≡ Some (Some k, s)
    → TakesField k s mid f g
    → length mid < length ts
fewer_tokens ts s mid k f g key t =
    let less : length mid < length s = shorter 3 s mid t.0 t.1 in
    let lesser : length s < length ts = read_key-shorter ts (Some k) s key in
    omega (arith, less, lesser)

pub all_fields : (first ts rest : List Token) (f : Fields)
    → TakesSoFar first ts f
    → read_key ts ≡ Some (None, rest)
    → TakesFields first f rest
all_fields first ts rest f before key = (
  before.0,
  subst (λ all. BeginMembers 3 first all rest) (onto_none before.0)
      (before.2 json.no_members rest (λ depth n le many. members_end (json.value depth) n ts rest many key)),
  before.1,
)

-- ---- the shape that the fields make

only_named : (names : List (List ℕ)) (ms : json.Members) (before : Members)
    → has_only names (members_in ms before) ≡ (are_named names ms && has_only names before)
only_named names json.no_members before = refl
only_named names (json.member k j ms) before =
    only_named names ms (put k (data_in j) before)
    ∙ ap (λ b. are_named names ms && b) (only_put names k (data_in j) before)
    ∙ go (are_named names ms) (is_among names k) (has_only names before)
  where
    go : (a b c : Bool) → (a && (b && c)) ≡ ((b && a) && c)
    go true true c = refl
    go true false c = refl
    go false true c = refl
    go false false c = refl

known : (names : List (List ℕ)) (ms : json.Members) → are_named names ms ≡ true → only_of names (data_in (json.object ms)) ≡ Ok true
known names ms e =
    let all : has_only names (members_in ms no_members) ≡ true = only_named names ms no_members ∙ and_from _ _ e refl in
    ap guard all

found_there : (name : List ℕ) (ms : json.Members) (o : Option json.Json) → get_member name ms ≡ o
    → get name (data_in (json.object ms)) ≡ option_map data_in o
found_there name ms o e = member_in name (json.object ms) ∙ ap (option_map data_in) e

optional : {A B : Type 0} (read : Option Data → Result B Refusal) (view : A → B) (other : A) (name : List ℕ) (ms : json.Members) (o : Option A)
    → read None ≡ Ok (view other)
    → IsField (λ d. read (Some d)) view name ms o
    → read (get name (data_in (json.object ms))) ≡ Ok (view (unwrap_or o other))
optional read view other name ms None left_out is = ap read (found_there name ms None is) ∙ left_out
optional read view other name ms (Some a) left_out is = ap read (found_there name ms (Some is.0) is.1) ∙ is.2

needed : {A B : Type 0} (read : Data → Result B Refusal) (view : A → B) (name : List ℕ) (ms : json.Members) (o : Option A) (a : A)
    → o ≡ Some a
    → IsField read view name ms o
    → (field_of name (data_in (json.object ms)) >>= read) ≡ Ok (view a)
needed read view name ms None a e is = cc
needed {A = A} read view name ms (Some x) a e is =
    let same : x ≡ a = cc in
    ap (λ o. ok_or o BadRequest >>= read) (found_there name ms (Some is.0) is.1) ∙ is.2 ∙ ap (λ y. Ok (view y)) same

shape_made : (d : Data) (s : SpelledJudge)
    → only_of judge_keys d ≡ Ok true
    → (field_of (codes "entries") d >>= entry_shapes_of) ≡ Ok s.entries
    → kind_shape_of (get (codes "kind") d) ≡ Ok s.holder
    → (field_of (codes "group") d >>= whole_of) ≡ Ok s.head_group
    → groups_shape_of (get (codes "groups") d) ≡ Ok s.groups
    → (field_of (codes "owner") d >>= text_of) ≡ Ok s.owner
    → (field_of (codes "who") d >>= text_of) ≡ Ok s.who
    → (field_of (codes "mask") d >>= whole_of) ≡ Ok s.mask
    → policy_shape_of (get (codes "policy") d) ≡ Ok s.policy
    → judge_shape_of d ≡ Ok s
unfolding judge_shape_of
shape_made d s names entries holder head_group groups owner who mask policy =
    rw (names, holder, head_group, owner, who, mask, policy, entries, groups) refl

left_out_kind : kind_shape_of None ≡ Ok Plain
unfolding kind_shape_of
left_out_kind = refl

left_out_groups : groups_shape_of None ≡ Ok []
unfolding groups_shape_of
left_out_groups = refl

left_out_policy : policy_shape_of None ≡ Ok One
unfolding policy_shape_of
left_out_policy = refl

pub made_of_fields : (f : Fields) (entries : Vec EntryShape Global) (kind : Holder) (head_group mask : ℕ) (groups empty : Vec GroupShape Global) (owner who : Bor (List ℕ)) (policy : Policy)
    → f.entries ≡ Some entries
    → kind ≡ unwrap_or f.holder Plain
    → f.head_group ≡ Some head_group
    → groups ≡ unwrap_or f.groups empty
    → empty.items ≡ []
    → f.owner ≡ Some owner
    → f.who ≡ Some who
    → f.mask ≡ Some mask
    → policy ≡ unwrap_or f.policy One
    → (ms : json.Members) → AreFields ms f
    → judge_shape_of (data_in (json.object ms)) ≡ Ok (record {
      entries = map spelled_entry entries.items;
      holder = kind;
      head_group = head_group;
      groups = map spelled_group groups.items;
      owner = owner.now;
      who = who.now;
      mask = mask;
      policy = policy;
    })
made_of_fields f entries kind head_group mask groups empty owner who policy is_entries is_holder is_group is_groups is_empty is_owner is_who is_mask is_policy ms are =
    let none : groups_shape_of None ≡ Ok (map spelled_group empty.items) = left_out_groups ∙ ap (λ gs. Ok (map spelled_group gs)) (sym is_empty) in
    shape_made (data_in (json.object ms)) _ (known judge_keys ms are.named)
    (needed entry_shapes_of (λ (v : Vec EntryShape Global). map spelled_entry v.items) (codes "entries") ms f.entries entries is_entries are.entries)
    (optional kind_shape_of (λ (h : Holder). h) Plain (codes "kind") ms f.holder left_out_kind are.holder ∙ ap Ok (sym is_holder))
    (needed whole_of (λ (n : ℕ). n) (codes "group") ms f.head_group head_group is_group are.head_group)
    (optional groups_shape_of (λ (v : Vec GroupShape Global). map spelled_group v.items) empty (codes "groups") ms f.groups none are.groups
    ∙ ap (λ (v : Vec GroupShape Global). Ok (map spelled_group v.items)) (sym is_groups))
    (needed text_of (λ (t : Bor (List ℕ)). t.now) (codes "owner") ms f.owner owner is_owner are.owner)
    (needed text_of (λ (t : Bor (List ℕ)). t.now) (codes "who") ms f.who who is_who are.who)
    (needed whole_of (λ (n : ℕ). n) (codes "mask") ms f.mask mask is_mask are.mask)
    (optional policy_shape_of (λ (p : Policy). p) One (codes "policy") ms f.policy left_out_policy are.policy ∙ ap Ok (sym is_policy))

-- ---- the line

pub name_taken : (k : Option (Bor (List ℕ))) (name : Bor (List ℕ)) (old new : List Token)
    → MatchOption k (old ≡ Token.end_object ∷ new) (λ n. old ≡ Token.key n.now ∷ new)
    → k ≡ Some name
    → read_key old ≡ Some (Some name.now, new)
name_taken None name old new h e = cc
name_taken (Some n) name old new h e =
    let same : n ≡ name = cc in
    ap read_key h ∙ ap (λ (m : Bor (List ℕ)). Some (Some m.now, new)) same

pub none_taken : (k : Option (Bor (List ℕ))) (old new : List Token)
    → MatchOption k (old ≡ Token.end_object ∷ new) (λ n. old ≡ Token.key n.now ∷ new)
    → k ≡ None
    → read_key old ≡ Some (None, new)
none_taken None old new h e = ap read_key h
none_taken (Some n) old new h e = cc

pub line_taken : (bytes : List ℕ) (all ts rest : List Token) (f : Fields) (o : Option JudgeShape)
    → IsUtf8 bytes
    → all ≡ tokens bytes
    → all ≡ Token.begin_object ∷ ts
    → TakesFields ts f rest
    → rest ≡ []
    → IfSome o (λ shape. (ms : json.Members) → AreFields ms f → judge_shape_of (data_in (json.object ms)) ≡ Ok (spelled_judge shape))
    → IfSome o (λ shape. line_shape_of bytes ≡ Ok (spelled_judge shape))
line_taken bytes all ts rest f None utf8 is first t over made = tt
line_taken bytes all ts rest f (Some shape) utf8 is first t over made =
    let one : json.value max_depth (tokens bytes) ≡ Some (json.object t.0, []) =
    ap (json.value max_depth) (sym is ∙ first) ∙ value-begin_object max_depth ts (omega arith)
    ∙ ap (json.parse_map json.object) (t.1 (max_depth - 1) (length ts) (omega arith) (omega arith))
    ∙ ap (λ left. Some (json.object t.0, left)) over in
    let there : read bytes ≡ Some (data_in (json.object t.0)) =
    one_read bytes (json.object t.0) one ∙ ap (λ b. cond b (Some (data_in (json.object t.0))) None) t.2.in_range in
    rw (data_read bytes (data_in (json.object t.0)) utf8 there) (made t.0 t.2)
