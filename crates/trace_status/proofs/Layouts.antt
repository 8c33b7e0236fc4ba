-- The layouts of a syscall information, field by field.
use Rattle.std.proofs.Common.{◌≡◌, ◌+◌, ◌%◌, ◌<◌, ◌^◌, ◌≢◌, ℕ, nat_eq, List, [], ◌∷◌, ◌++◌, length, take, drop}
use Rattle.std.proofs.Common.{append_assoc, Bool, true, false, if◌then◌else◌, refl, sym, ap, ◌∙◌, arith}
use Rattle.std.specs.Prelude.{All, slice_range, slice_index, ℤ}
use Rattle.std.specs.Int.{w32, w64, to_le_bytes, cast_unsigned, cast_signed, from_bool}
use Rattle.std.specs.List.{flat_map}
use Rattle.std.proofs.lemmas.List.{drop-drop, drop-take, take-take}
use Rattle.std.proofs.lemmas.Int.{of_z-to_z, to_z-of_z}
use mir.ValLaws.{of_z_fits}
use Rattle.trace_status.specs.SyscallInfo.{AreArguments, AreInPlace, IsPart, FitsU64, call_layout, field_bytes}
use Rattle.trace_status.specs.SyscallInfo.{layout, op_of, part_layout}
use Rattle.trace_status.specs.declared.syscall_info.Part.{Part}
use Rattle.trace_status.specs.declared.syscall_info.Part.TheVariants.{Quiet, Entry, Exit, Seccomp}

-- the bytes of a layout, by the fields of the information
abbrev pub bytes_with : ℕ → ℕ → ℕ → Part → List ℕ
bytes_with arch ip sp part = flat_map field_bytes (layout (record { arch = arch; ip = ip; sp = sp; part = part }))

pub in_place : (arch ip sp : ℕ) (part : Part)
    → AreInPlace 0 (layout (record { arch = arch; ip = ip; sp = sp; part = part }))
    (length (bytes_with arch ip sp part))
in_place arch ip sp Quiet = (refl, (refl, (refl, (refl, (refl, refl)))))
in_place arch ip sp (Entry nr args) =
    (refl, (refl, (refl, (refl, (refl, (refl, (refl, (refl, (refl, (refl, (refl, (refl, refl))))))))))))
in_place arch ip sp (Exit rval is_error) = (refl, (refl, (refl, (refl, (refl, (refl, (refl, refl)))))))
in_place arch ip sp (Seccomp nr args ret_data) =
    (refl, (refl, (refl, (refl, (refl, (refl, (refl, (refl, (refl, (refl, (refl, (refl, (refl, refl)))))))))))))

-- ---- a layout that is put together

-- one piece after another
pub behind : (d0 d1 d2 a b : List ℕ) → d1 ≡ d0 ++ a → d2 ≡ d1 ++ b → d2 ≡ d0 ++ (a ++ b)
behind d0 d1 d2 a b first second = second ∙ ap (λ (d : List ℕ). d ++ b) first ∙ append_assoc d0 a b

-- a system call after what is there
pub call_behind : (d0 d1 d2 d3 d4 d5 d6 d7 : List ℕ) (nr : ℕ) (args : List ℕ) → d1 ≡ d0 ++ to_le_bytes w64 nr
    → d2 ≡ d1 ++ to_le_bytes w64 (slice_index args 0) → d3 ≡ d2 ++ to_le_bytes w64 (slice_index args 1)
    → d4 ≡ d3 ++ to_le_bytes w64 (slice_index args 2) → d5 ≡ d4 ++ to_le_bytes w64 (slice_index args 3)
    → d6 ≡ d5 ++ to_le_bytes w64 (slice_index args 4) → d7 ≡ d6 ++ to_le_bytes w64 (slice_index args 5)
    → d7 ≡ d0 ++ flat_map field_bytes (call_layout nr args)
call_behind d0 d1 d2 d3 d4 d5 d6 d7 nr args p1 p2 p3 p4 p5 p6 p7 =
    let w : ℕ → List ℕ = λ k. to_le_bytes w64 (slice_index args k) in
    let a0 : List ℕ = to_le_bytes w64 nr in
    let q2 : d2 ≡ d0 ++ (a0 ++ w 0) = behind d0 d1 d2 a0 (w 0) p1 p2 in
    let q3 : d3 ≡ d0 ++ (a0 ++ w 0 ++ w 1) = behind d0 d2 d3 (a0 ++ w 0) (w 1) q2 p3 in
    let q4 : d4 ≡ d0 ++ (a0 ++ w 0 ++ w 1 ++ w 2) = behind d0 d3 d4 (a0 ++ w 0 ++ w 1) (w 2) q3 p4 in
    let q5 : d5 ≡ d0 ++ (a0 ++ w 0 ++ w 1 ++ w 2 ++ w 3) = behind d0 d4 d5 (a0 ++ w 0 ++ w 1 ++ w 2) (w 3) q4 p5 in
    let q6 : d6 ≡ d0 ++ (a0 ++ w 0 ++ w 1 ++ w 2 ++ w 3 ++ w 4) = behind d0 d5 d6 (a0 ++ w 0 ++ w 1 ++ w 2 ++ w 3)
    (w 4) q5 p6 in
    behind d0 d6 d7 (a0 ++ w 0 ++ w 1 ++ w 2 ++ w 3 ++ w 4) (w 5) q6 p7

-- what comes before the part
abbrev pub head_bytes : ℕ → ℕ → ℕ → ℕ → List ℕ
head_bytes op arch ip sp = (op ∷ 0 ∷ 0 ∷ 0 ∷ []) ++ (to_le_bytes w32 arch ++ (to_le_bytes w64 ip ++ to_le_bytes w64 sp))

pub head_drafted : (d0 d1 d2 d3 d4 four : List ℕ) (op arch ip sp : ℕ) → d0 ≡ [] → d1 ≡ d0 ++ (op ∷ 0 ∷ 0 ∷ 0 ∷ [])
    → four ≡ to_le_bytes w32 arch → d2 ≡ d1 ++ four → d3 ≡ d2 ++ to_le_bytes w64 ip → d4 ≡ d3 ++ to_le_bytes w64 sp
    → d4 ≡ head_bytes op arch ip sp
head_drafted d0 d1 d2 d3 d4 four op arch ip sp none first half second third fourth =
    let at1 : d1 ≡ op ∷ 0 ∷ 0 ∷ 0 ∷ [] = first ∙ ap (λ (d : List ℕ). d ++ (op ∷ 0 ∷ 0 ∷ 0 ∷ [])) none in
    let at2 : d2 ≡ (op ∷ 0 ∷ 0 ∷ 0 ∷ []) ++ to_le_bytes w32 arch = second ∙ (λ i. at1 i ++ half i) in
    let at3 : d3 ≡ (op ∷ 0 ∷ 0 ∷ 0 ∷ []) ++ to_le_bytes w32 arch ++ to_le_bytes w64 ip = third
    ∙ ap (λ (d : List ℕ). d ++ to_le_bytes w64 ip) at2 in
    fourth ∙ ap (λ (d : List ℕ). d ++ to_le_bytes w64 sp) at3

pub head_and_part : (arch ip sp : ℕ) (part : Part)
    → head_bytes (op_of part) arch ip sp ++ flat_map field_bytes (part_layout part) ≡ bytes_with arch ip sp part
head_and_part arch ip sp Quiet = refl
head_and_part arch ip sp (Entry nr args) = refl
head_and_part arch ip sp (Exit rval is_error) = refl
head_and_part arch ip sp (Seccomp nr args ret_data) = refl

pub drafted : (arch ip sp op : ℕ) (part was : Part) (d head : List ℕ) → head ≡ head_bytes op arch ip sp
    → op ≡ op_of part → part ≡ was
    → d ≡ head ++ flat_map field_bytes (part_layout was) → d ≡ bytes_with arch ip sp part
drafted arch ip sp op part was d head stands is_op is_part behind_it =
    behind_it
    ∙ (λ i. stands i ++ flat_map field_bytes (part_layout (sym is_part i)))
    ∙ ap (λ (o : ℕ). head_bytes o arch ip sp ++ flat_map field_bytes (part_layout part)) is_op
    ∙ head_and_part arch ip sp part

-- a result after the head
pub exit_behind : (d0 d1 d2 : List ℕ) (rval : ℤ) (is_error : Bool) (flag : ℕ) → flag ≡ from_bool is_error
    → d1 ≡ d0 ++ to_le_bytes w64 (cast_unsigned w64 rval) → d2 ≡ d1 ++ flag ∷ []
    → d2 ≡ d0 ++ flat_map field_bytes (part_layout (Exit rval is_error))
exit_behind d0 d1 d2 rval true flag is_flag first second =
    behind d0 d1 d2 (to_le_bytes w64 (cast_unsigned w64 rval)) (1 ∷ []) first
    (second ∙ ap (λ (x : ℕ). d1 ++ x ∷ []) is_flag)
exit_behind d0 d1 d2 rval false flag is_flag first second =
    behind d0 d1 d2 (to_le_bytes w64 (cast_unsigned w64 rval)) (0 ∷ []) first
    (second ∙ ap (λ (x : ℕ). d1 ++ x ∷ []) is_flag)

-- a filter's data behind the call
pub ret_data_behind : (d0 d1 d2 : List ℕ) (nr : ℕ) (args : List ℕ) (ret_data : ℕ) (half : List ℕ)
    → half ≡ to_le_bytes w32 ret_data
    → d1 ≡ d0 ++ flat_map field_bytes (call_layout nr args) → d2 ≡ d1 ++ half
    → d2 ≡ d0 ++ flat_map field_bytes (part_layout (Seccomp nr args ret_data))
ret_data_behind d0 d1 d2 nr args ret_data half is_half first second =
    behind d0 d1 d2 (flat_map field_bytes (call_layout nr args)) (to_le_bytes w32 ret_data) first
    (second ∙ ap (λ (x : List ℕ). d1 ++ x) is_half)

-- ---- a layout that is read

-- a list of six numbers
six : (P : List ℕ → Type 0) → ((a b c d e f : ℕ) → P (a ∷ b ∷ c ∷ d ∷ e ∷ f ∷ [])) → (xs : List ℕ) → length xs ≡ 6
    → P xs
six P h [] long = absurd (omega arith)
six P h (a ∷ []) long = absurd (omega arith)
six P h (a ∷ b ∷ []) long = absurd (omega arith)
six P h (a ∷ b ∷ c ∷ []) long = absurd (omega arith)
six P h (a ∷ b ∷ c ∷ d ∷ []) long = absurd (omega arith)
six P h (a ∷ b ∷ c ∷ d ∷ e ∷ []) long = absurd (omega arith)
six P h (a ∷ b ∷ c ∷ d ∷ e ∷ f ∷ []) long = h a b c d e f
six P h (a ∷ b ∷ c ∷ d ∷ e ∷ f ∷ g ∷ xs) long = absurd (omega arith)

-- a number is a word with these bytes, wherever one is
abbrev pub ReadsWord : ℕ → List ℕ → Type 0
ReadsWord read bytes = (word : ℕ) → FitsU64 word → to_le_bytes w64 word ≡ bytes → read ≡ word

abbrev pub ReadsHalf : ℕ → List ℕ → Type 0
ReadsHalf read bytes = (half : ℕ) → half < 2 ^ 32 → to_le_bytes w32 half ≡ bytes → read ≡ half

abbrev pub ReadsArguments : List ℕ → List ℕ → Type 0
ReadsArguments read bytes = (args : List ℕ) → AreArguments args → flat_map (to_le_bytes w64) args ≡ bytes → read ≡ args

abbrev SixRead : List ℕ → ℕ → ℕ → ℕ → ℕ → ℕ → ℕ → List ℕ → Type 0
SixRead bytes a b c d e f args =
    All FitsU64 args → flat_map (to_le_bytes w64) args ≡ slice_range bytes 32 80 → a ∷ b ∷ c ∷ d ∷ e ∷ f ∷ [] ≡ args

-- the front of a front
front : (xs : List ℕ) (j : ℕ) → take 8 (take (8 + j) xs) ≡ take 8 xs
front xs j = take-take 8 (8 + j) xs (omega arith)

-- a word among the arguments' bytes
inner : (bytes : List ℕ) (n j : ℕ) → take 8 (drop n (take (n + (8 + j)) (drop 32 bytes))) ≡ take 8 (drop (32 + n) bytes)
inner bytes n j =
    ap (take 8) (drop-take n (8 + j) (drop 32 bytes))
    ∙ front (drop n (drop 32 bytes)) j
    ∙ ap (take 8) (drop-drop n 32 bytes)

-- the arguments are read word by word
pub arguments_read : (bytes : List ℕ) (a b c d e f : ℕ)
    → ReadsWord a (slice_range bytes 32 40) → ReadsWord b (slice_range bytes 40 48)
    → ReadsWord c (slice_range bytes 48 56) → ReadsWord d (slice_range bytes 56 64)
    → ReadsWord e (slice_range bytes 64 72) → ReadsWord f (slice_range bytes 72 80)
    → ReadsArguments (a ∷ b ∷ c ∷ d ∷ e ∷ f ∷ []) (slice_range bytes 32 80)
arguments_read bytes a b c d e f ra rb rc rd re rf args fits =
    six (SixRead bytes a b c d e f) (λ u v w x y z words same.
    let pa : a ≡ u = ra u (words 0 0 (omega arith)) (ap (λ (s : List ℕ). slice_range s 0 8) same ∙ inner bytes 0 40) in
    let pb : b ≡ v = rb v (words 1 0 (omega arith)) (ap (λ (s : List ℕ). slice_range s 8 16) same ∙ inner bytes 8 32) in
    let pc : c ≡ w = rc w (words 2 0 (omega arith))
    (ap (λ (s : List ℕ). slice_range s 16 24) same ∙ inner bytes 16 24) in
    let pd : d ≡ x = rd x (words 3 0 (omega arith))
    (ap (λ (s : List ℕ). slice_range s 24 32) same ∙ inner bytes 24 16) in
    let pe : e ≡ y = re y (words 4 0 (omega arith))
    (ap (λ (s : List ℕ). slice_range s 32 40) same ∙ inner bytes 32 8) in
    let pf : f ≡ z = rf z (words 5 0 (omega arith))
    (ap (λ (s : List ℕ). slice_range s 40 48) same ∙ inner bytes 40 0) in
    λ i. pa i ∷ pb i ∷ pc i ∷ pd i ∷ pe i ∷ pf i ∷ []) args fits.0 fits.1

-- the arguments in a layout
entry_arguments : (arch ip sp nr : ℕ) (args : List ℕ) → length args ≡ 6
    → flat_map (to_le_bytes w64) args ≡ slice_range (bytes_with arch ip sp (Entry nr args)) 32 80
entry_arguments arch ip sp nr =
    six (λ args. flat_map (to_le_bytes w64) args ≡ slice_range (bytes_with arch ip sp (Entry nr args)) 32 80)
    (λ a b c d e f. refl)

seccomp_arguments : (arch ip sp nr ret_data : ℕ) (args : List ℕ) → length args ≡ 6
    → flat_map (to_le_bytes w64) args ≡ slice_range (bytes_with arch ip sp (Seccomp nr args ret_data)) 32 80
seccomp_arguments arch ip sp nr ret_data =
    six (λ args. flat_map (to_le_bytes w64) args
    ≡ slice_range (bytes_with arch ip sp (Seccomp nr args ret_data)) 32 80) (λ a b c d e f. refl)

pub quiet_told : (arch ip sp : ℕ) (part : Part) (bytes : List ℕ) → bytes_with arch ip sp part ≡ bytes
    → length bytes ≡ 24 → Quiet ≡ part
quiet_told arch ip sp Quiet bytes same long = refl
quiet_told arch ip sp (Entry nr args) bytes same long =
    let wrong : length bytes ≡ 80 = sym (ap length same) in absurd (omega (arith, wrong, long))
quiet_told arch ip sp (Exit rval is_error) bytes same long =
    let wrong : length bytes ≡ 33 = sym (ap length same) in absurd (omega (arith, wrong, long))
quiet_told arch ip sp (Seccomp nr args ret_data) bytes same long =
    let wrong : length bytes ≡ 84 = sym (ap length same) in absurd (omega (arith, wrong, long))

pub entry_told : (arch ip sp : ℕ) (part : Part) (bytes : List ℕ) (nr : ℕ) (args : List ℕ) → IsPart part
    → bytes_with arch ip sp part ≡ bytes
    → length bytes ≡ 80 → ReadsWord nr (slice_range bytes 24 32) → ReadsArguments args (slice_range bytes 32 80)
    → Entry nr args ≡ part
entry_told arch ip sp Quiet bytes nr args fits same long number arguments =
    let wrong : length bytes ≡ 24 = sym (ap length same) in absurd (omega (arith, wrong, long))
entry_told arch ip sp (Entry n xs) bytes nr args fits same long number arguments =
    let is_nr : nr ≡ n = number n fits.0 (ap (λ (s : List ℕ). slice_range s 24 32) same) in
    let are_args : args ≡ xs = arguments xs fits.1
    (entry_arguments arch ip sp n xs fits.1.0 ∙ ap (λ (s : List ℕ). slice_range s 32 80) same) in
    λ i. Entry (is_nr i) (are_args i)
entry_told arch ip sp (Exit rval is_error) bytes nr args fits same long number arguments =
    let wrong : length bytes ≡ 33 = sym (ap length same) in absurd (omega (arith, wrong, long))
entry_told arch ip sp (Seccomp n xs ret_data) bytes nr args fits same long number arguments =
    let wrong : length bytes ≡ 84 = sym (ap length same) in absurd (omega (arith, wrong, long))

pub seccomp_told : (arch ip sp : ℕ) (part : Part) (bytes : List ℕ) (nr : ℕ) (args : List ℕ) (ret_data : ℕ)
    → IsPart part → bytes_with arch ip sp part ≡ bytes
    → length bytes ≡ 84 → ReadsWord nr (slice_range bytes 24 32) → ReadsArguments args (slice_range bytes 32 80)
    → ReadsHalf ret_data (slice_range bytes 80 84)
    → Seccomp nr args ret_data ≡ part
seccomp_told arch ip sp Quiet bytes nr args ret_data fits same long number arguments returned =
    let wrong : length bytes ≡ 24 = sym (ap length same) in absurd (omega (arith, wrong, long))
seccomp_told arch ip sp (Entry n xs) bytes nr args ret_data fits same long number arguments returned =
    let wrong : length bytes ≡ 80 = sym (ap length same) in absurd (omega (arith, wrong, long))
seccomp_told arch ip sp (Exit rval is_error) bytes nr args ret_data fits same long number arguments returned =
    let wrong : length bytes ≡ 33 = sym (ap length same) in absurd (omega (arith, wrong, long))
seccomp_told arch ip sp (Seccomp n xs r) bytes nr args ret_data fits same long number arguments returned =
    let is_nr : nr ≡ n = number n fits.0 (ap (λ (s : List ℕ). slice_range s 24 32) same) in
    let are_args : args ≡ xs = arguments xs fits.1
    (seccomp_arguments arch ip sp n r xs fits.1.0 ∙ ap (λ (s : List ℕ). slice_range s 32 80) same) in
    let is_ret : ret_data ≡ r = returned r fits.2 (ap (λ (s : List ℕ). slice_range s 80 84) same) in
    λ i. Seccomp (is_nr i) (are_args i) (is_ret i)

-- ---- a result

is_flag : (b : Bool) (flag : ℕ) → flag ≡ (if b then 1 else 0) → nat_eq flag 1 ≡ b
is_flag true flag same = ap (λ (x : ℕ). nat_eq x 1) same
is_flag false flag same = ap (λ (x : ℕ). nat_eq x 1) same

flag_byte : (b : Bool) → (if b then 1 else 0) % 256 ≡ (if b then 1 else 0)
flag_byte true = refl
flag_byte false = refl

pub exit_told : (arch ip sp : ℕ) (part : Part) (bytes : List ℕ) (word : ℕ) → IsPart part
    → bytes_with arch ip sp part ≡ bytes
    → length bytes ≡ 33 → ReadsWord word (slice_range bytes 24 32)
    → Exit (cast_signed w64 word) (nat_eq (slice_index bytes 32) 1) ≡ part
exit_told arch ip sp Quiet bytes word fits same long number =
    let wrong : length bytes ≡ 24 = sym (ap length same) in absurd (omega (arith, wrong, long))
exit_told arch ip sp (Entry n xs) bytes word fits same long number =
    let wrong : length bytes ≡ 80 = sym (ap length same) in absurd (omega (arith, wrong, long))
exit_told arch ip sp (Exit rval is_error) bytes word fits same long number =
    let is_word : word ≡ cast_unsigned w64 rval = number (cast_unsigned w64 rval) ((of_z_fits w64 rval fits).fits)
    (ap (λ (s : List ℕ). slice_range s 24 32) same) in
    let is_rval : cast_signed w64 word ≡ rval = ap (cast_signed w64) is_word ∙ to_z-of_z w64 rval fits in
    let flag : slice_index bytes 32 ≡ (if is_error then 1 else 0) = sym (ap (λ (s : List ℕ). slice_index s 32) same)
    ∙ flag_byte is_error in
    let is_is : nat_eq (slice_index bytes 32) 1 ≡ is_error = is_flag is_error (slice_index bytes 32) flag in
    λ i. Exit (is_rval i) (is_is i)
exit_told arch ip sp (Seccomp n xs r) bytes word fits same long number =
    let wrong : length bytes ≡ 84 = sym (ap length same) in absurd (omega (arith, wrong, long))

-- no bytes of a layout have another length
pub has_length : (arch ip sp : ℕ) (part : Part) (bytes : List ℕ) → bytes_with arch ip sp part ≡ bytes
    → length bytes ≢ 24 → length bytes ≢ 80 → length bytes ≢ 33 → length bytes ≢ 84 → ⊥
has_length arch ip sp Quiet bytes same a b c d = a (sym (ap length same))
has_length arch ip sp (Entry n xs) bytes same a b c d = b (sym (ap length same))
has_length arch ip sp (Exit rval is_error) bytes same a b c d = c (sym (ap length same))
has_length arch ip sp (Seccomp n xs r) bytes same a b c d = d (sym (ap length same))

-- a word that is read as a signed number
pub signed_read : (z : ℤ) (x : ℕ) (bytes : List ℕ) → z ≡ cast_signed w64 x → ReadsWord x bytes
    → ReadsWord (cast_unsigned w64 z) bytes
signed_read z x bytes is reads word fits same =
    ap (cast_unsigned w64) (is ∙ ap (cast_signed w64) (reads word fits same)) ∙ of_z-to_z w64 word fits
