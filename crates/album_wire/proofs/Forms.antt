-- What is read of a line's members is what has their form, and the other way round. For the laws of lines, which are
-- each `line_by` of their kind.
use Rattle.std.proofs.Common.{◌≡◌, ◌↔◌, ℕ, List, Bool, true, false, cond, is_some, Option, Some, None, Result, Ok, MatchOption, refl, ap, ◌∙◌}
use Rattle.std.specs.Option.{ok_or}
use Rattle.serde_json.specs.Data.{Data, null, boolean, number, string, array, object}
use Rattle.serde_json.specs.Find.{get}
use Rattle.serde_json.specs.View.{items_of}
use Rattle.album_stamps.specs.declared.refusals.Refusal.{Refusal}
use Rattle.album_stamps.specs.declared.refusals.Refusal.TheVariants.{BadRequest}
use Rattle.album_stamps.specs.Outcome.{◌>>=◌}
use Rattle.album_lines.specs.Fields.{data_of, is_among, only_of, field_of, has, member_or, text_of, whole_of, truth_of, list_of, each}
use Rattle.album_lines.specs.Spelling.{IsJson, HasOnly, IsList}
use Rattle.album_wire.specs.ObjectSpelling.{IsWhole, IsTruth, HasMember}
use Rattle.album_lines.proofs.Steps.{step_taken, value_there, there, taken, each_read, read_each, zip_weaker}
use Rattle.album_lines.proofs.LineValues.{data_read, data_spelled}
use Rattle.album_lines.proofs.Json.{text_read, whole_read, list_read, names_spelled, names_read, is_there}

-- ---- steps

-- a step that gave a value, and then the next
pub step_then : {A B : Type 0} (x : Result A Refusal) (f : A → Result B Refusal) (a : A) (b : B)
    → x ≡ Ok a
    → f a ≡ Ok b
    → (x >>= f) ≡ Ok b
step_then x f a b e h = rw e h

-- a choice of two
pub on_test : {A B : Type 0} (test : Bool) (x y : Result A Refusal) (a : A)
    → cond test x y ≡ Ok a
    → (test ≡ true → x ≡ Ok a → B)
    → (y ≡ Ok a → B)
    → B
on_test true x y a h first second = first refl h
on_test false x y a h first second = second h

pub on_true : {A : Type 0} (test : Bool) (x y : Result A Refusal) (a : A)
    → test ≡ true
    → x ≡ Ok a
    → cond test x y ≡ Ok a
on_true test x y a e h = rw e h

pub on_false : {A : Type 0} (test : Bool) (x y : Result A Refusal) (a : A)
    → test ≡ false
    → y ≡ Ok a
    → cond test x y ≡ Ok a
on_false test x y a e h = rw e h

-- ---- texts, numbers and truths

-- a text, as it is
abbrev pub IsString : List ℕ → Data → Type 0
IsString text d = d ≡ string text

pub string_form : (text : List ℕ) (d : Data) → text_of d ≡ Ok text → IsString text d
string_form text d h = text_read d text h

pub read_string : (text : List ℕ) (d : Data) → IsString text d → text_of d ≡ Ok text
read_string text d is = ap text_of is

pub whole_form : (n : ℕ) (d : Data) → whole_of d ≡ Ok n → IsWhole n d
whole_form n d h = whole_read d n h

pub read_whole : (n : ℕ) (d : Data) → IsWhole n d → whole_of d ≡ Ok n
read_whole n d is = ap whole_of is

pub truth_form : (b : Bool) (d : Data) → truth_of d ≡ Ok b → IsTruth b d
truth_form b null h = cc
truth_form b (boolean c) h = cc
truth_form b (number n) h = cc
truth_form b (string s) h = cc
truth_form b (array ds) h = cc
truth_form b (object ms) h = cc

pub read_truth : (b : Bool) (d : Data) → IsTruth b d → truth_of d ≡ Ok b
read_truth b d is = ap truth_of is

-- ---- members

-- the names that an object may have, and then the rest
pub names_taken : {B : Type 0} (names : List (List ℕ)) (d : Data) (rest : Result B Refusal) (b : B)
    → (only_of names d >>= λ _. rest) ≡ Ok b
    → HasOnly names d × (rest ≡ Ok b)
names_taken names d rest b h =
    let step = step_taken (only_of names d) (λ _. rest) b h in
    (names_spelled names d step.0 step.1, step.2)

pub names_then : {B : Type 0} (names : List (List ℕ)) (d : Data) (rest : Result B Refusal) (b : B)
    → HasOnly names d
    → rest ≡ Ok b
    → (only_of names d >>= λ _. rest) ≡ Ok b
names_then names d rest b is h = step_then (only_of names d) (λ _. rest) true b (names_read names d is) h

-- a member that must be there
pub member_form : {A : Type 0} (name : List ℕ) (d : Data) (read : Data → Result A Refusal) (Is : A → Data → Type 0)
    → ((a : A) (e : Data) → read e ≡ Ok a → Is a e)
    → (a : A)
    → (field_of name d >>= read) ≡ Ok a
    → HasMember name (Is a) d
member_form name d read Is form a h =
    let value = step_taken (field_of name d) read a h in
    there (get name d) value.0 (Is a) (value_there _ BadRequest value.0 value.1) (form a value.0 value.2)

pub read_member : {A : Type 0} (name : List ℕ) (d : Data) (read : Data → Result A Refusal) (Is : Data → Type 0) (a : A)
    → ((e : Data) → Is e → read e ≡ Ok a)
    → HasMember name Is d
    → (field_of name d >>= read) ≡ Ok a
read_member name d read Is a back is =
    let value = taken (get name d) Is is in
    step_then (field_of name d) read value.0 a (ap (λ o. ok_or o BadRequest) value.1) (back value.0 value.2)

-- and then the rest
pub member_taken : {A B : Type 0} (name : List ℕ) (d : Data) (read : Data → Result A Refusal) (Is : A → Data → Type 0)
    → ((a : A) (e : Data) → read e ≡ Ok a → Is a e)
    → (f : A → Result B Refusal) (b : B)
    → ((field_of name d >>= read) >>= f) ≡ Ok b
    → (a : A) × HasMember name (Is a) d × (f a ≡ Ok b)
member_taken name d read Is form f b h =
    let step = step_taken (field_of name d >>= read) f b h in
    (step.0, member_form name d read Is form step.0 step.1, step.2)

pub member_then : {A B : Type 0} (name : List ℕ) (d : Data) (read : Data → Result A Refusal) (Is : Data → Type 0)
    (a : A)
    → ((e : Data) → Is e → read e ≡ Ok a)
    → (f : A → Result B Refusal) (b : B)
    → HasMember name Is d
    → f a ≡ Ok b
    → ((field_of name d >>= read) >>= f) ≡ Ok b
member_then name d read Is a back f b is h =
    step_then (field_of name d >>= read) f a b (read_member name d read Is a back is) h

-- the same member, of another form
pub member_as : (name : List ℕ) (d : Data) (P Q : Data → Type 0)
    → ((e : Data) → P e → Q e)
    → HasMember name P d
    → HasMember name Q d
member_as name d P Q so is =
    let value = taken (get name d) P is in
    there (get name d) value.0 Q value.1 (so value.0 value.2)

-- a member whose form is read in two steps: what the first gives
pub member_parts : {A : Type 0} (name : List ℕ) (d : Data) (read : Data → Result A Refusal) (Is : Data → Type 0)
    (More : A → Type 0)
    → ((e : Data) → Is e → (a : A) × (read e ≡ Ok a) × More a)
    → HasMember name Is d
    → (a : A) × HasMember name (λ e. read e ≡ Ok a) d × More a
member_parts name d read Is More parts is =
    let value = taken (get name d) Is is in
    let part = parts value.0 value.2 in
    (part.0, there (get name d) value.0 (λ e. read e ≡ Ok part.0) value.1 part.1, part.2)

-- a member by what is read of it, and then the rest
pub known_taken : {A B : Type 0} (name : List ℕ) (d : Data) (read : Data → Result A Refusal)
    (f : A → Result B Refusal) (b : B)
    → ((field_of name d >>= read) >>= f) ≡ Ok b
    → (a : A) × HasMember name (λ e. read e ≡ Ok a) d × (f a ≡ Ok b)
known_taken name d read f b h = member_taken name d read (λ a e. read e ≡ Ok a) (λ a e known. known) f b h

pub known_then : {A B : Type 0} (name : List ℕ) (d : Data) (read : Data → Result A Refusal) (a : A)
    (f : A → Result B Refusal) (b : B)
    → HasMember name (λ e. read e ≡ Ok a) d
    → f a ≡ Ok b
    → ((field_of name d >>= read) >>= f) ≡ Ok b
known_then name d read a f b is h = member_then name d read (λ e. read e ≡ Ok a) a (λ e known. known) f b is h

-- a member that is a text or a whole number, and then the rest
pub string_taken : {B : Type 0} (name : List ℕ) (d : Data) (f : List ℕ → Result B Refusal) (b : B)
    → ((field_of name d >>= text_of) >>= f) ≡ Ok b
    → (text : List ℕ) × HasMember name (IsString text) d × (f text ≡ Ok b)
string_taken name d f b h = member_taken name d text_of IsString string_form f b h

pub whole_taken : {B : Type 0} (name : List ℕ) (d : Data) (f : ℕ → Result B Refusal) (b : B)
    → ((field_of name d >>= whole_of) >>= f) ≡ Ok b
    → (n : ℕ) × HasMember name (IsWhole n) d × (f n ≡ Ok b)
whole_taken name d f b h = member_taken name d whole_of IsWhole whole_form f b h

pub whole_then : {B : Type 0} (name : List ℕ) (d : Data) (n : ℕ) (f : ℕ → Result B Refusal) (b : B)
    → HasMember name (IsWhole n) d
    → f n ≡ Ok b
    → ((field_of name d >>= whole_of) >>= f) ≡ Ok b
whole_then name d n f b is h = member_then name d whole_of (IsWhole n) n (read_whole n) f b is h

-- a member that is a list whose items each have their form
pub list_taken : {A B : Type 0} (name : List ℕ) (d : Data) (read : Data → Result A Refusal) (Is : A → Data → Type 0)
    → ((a : A) (e : Data) → read e ≡ Ok a → Is a e)
    → (f : List A → Result B Refusal) (b : B)
    → (((field_of name d >>= list_of) >>= each read) >>= f) ≡ Ok b
    → (xs : List A) × HasMember name (IsList Is xs) d × (f xs ≡ Ok b)
list_taken name d read Is form f b h =
    let step = step_taken ((field_of name d >>= list_of) >>= each read) f b h in
    let items = step_taken (field_of name d >>= list_of) (each read) step.0 step.1 in
    let value = step_taken (field_of name d) list_of items.0 items.1 in
    let ds = each_read read items.0 step.0 items.2 in
    let is : IsList Is step.0 value.0 =
    (ds.0, list_read value.0 items.0 value.2 ∙ ap array ds.1, zip_weaker _ Is form step.0 ds.0 ds.2) in
    (step.0, there (get name d) value.0 (IsList Is step.0) (value_there _ BadRequest value.0 value.1) is, step.2)

pub list_then : {A B : Type 0} (name : List ℕ) (d : Data) (read : Data → Result A Refusal) (Is : A → Data → Type 0)
    (xs : List A)
    → ((a : A) (e : Data) → Is a e → read e ≡ Ok a)
    → (f : List A → Result B Refusal) (b : B)
    → HasMember name (IsList Is xs) d
    → f xs ≡ Ok b
    → (((field_of name d >>= list_of) >>= each read) >>= f) ≡ Ok b
list_then name d read Is xs back f b is h =
    let value = taken (get name d) (IsList Is xs) is in
    let ds = value.2.0 in
    let list : (field_of name d >>= list_of) ≡ Ok (items_of ds) =
    step_then (field_of name d) list_of value.0 (items_of ds) (ap (λ o. ok_or o BadRequest) value.1)
    (ap list_of value.2.1) in
    let all = read_each read xs ds (zip_weaker Is _ back xs ds value.2.2) in
    step_then ((field_of name d >>= list_of) >>= each read) f xs b
    (step_then (field_of name d >>= list_of) (each read) (items_of ds) xs list all) h

-- a member that may be left out
pub may_form : {A : Type 0} (o : Option Data) (other : A) (read : Data → Result A Refusal) (Is : A → Data → Type 0)
    → ((a : A) (e : Data) → read e ≡ Ok a → Is a e)
    → (a : A)
    → member_or other read o ≡ Ok a
    → MatchOption o (a ≡ other) (Is a)
may_form None other read Is form a h = cc
may_form (Some e) other read Is form a h = form a e h

pub read_may : {A : Type 0} (o : Option Data) (other : A) (read : Data → Result A Refusal) (Is : Data → Type 0) (a : A)
    → ((e : Data) → Is e → read e ≡ Ok a)
    → MatchOption o (a ≡ other) Is
    → member_or other read o ≡ Ok a
read_may None other read Is a back is = rw is refl
read_may (Some e) other read Is a back is = back e is

-- ---- which object it is, by its names

pub is_in : (name : List ℕ) (Is : Data → Type 0) (d : Data) → HasMember name Is d → has name d ≡ true
is_in name Is d is = ap is_some (taken (get name d) Is is).1

pub is_out : (names : List (List ℕ)) (name : List ℕ) (d : Data)
    → HasOnly names d
    → is_among names name ≡ false
    → has name d ≡ false
is_out names name d is other = go (get name d) refl
  where
    go : (o : Option Data) → get name d ≡ o → is_some o ≡ false
    go None e = refl
    go (Some value) e = let known = is_there names name (is.known name value e) in cc

-- ---- lines

-- a line whose object is read in two steps, its shape and then its values
pub line_by : {A B : Type 0} (shape : Data → Result B Refusal) (read : B → Result A Refusal) (Is : A → Data → Type 0)
    → ((a : A) (b : B) (d : Data) → shape d ≡ Ok b → read b ≡ Ok a → Is a d)
    → ((a : A) (d : Data) → Is a d → (b : B) × (shape d ≡ Ok b) × (read b ≡ Ok a))
    → (a : A) (bytes : List ℕ)
    → (((data_of bytes >>= shape) >>= read) ≡ Ok a) ↔ ((d : Data) × IsJson d bytes × Is a d)
line_by shape read Is spelled parts a bytes = (sound, complete)
  where
    sound : ((data_of bytes >>= shape) >>= read) ≡ Ok a → (d : Data) × IsJson d bytes × Is a d
    sound h =
        let object = step_taken (data_of bytes >>= shape) read a h in
        let d = step_taken (data_of bytes) shape object.0 object.1 in
        (d.0, data_spelled bytes d.0 d.1, spelled a object.0 d.0 d.2 object.2)

    complete : (d : Data) × IsJson d bytes × Is a d → ((data_of bytes >>= shape) >>= read) ≡ Ok a
    complete is =
        let object = parts a is.0 is.2 in
        let value = data_read bytes is.0 is.1.utf8 is.1.value in
        step_then (data_of bytes >>= shape) read object.0 a
        (step_then (data_of bytes) shape is.0 object.0 value object.1) object.2
