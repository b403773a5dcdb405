-- Words of 32 bits from bytes, yes-or-no marks and longer numbers, and back. Words as bytes, the lowest first.
use Rattle.std.specs.Prelude.{ℕ, zero, suc, ◌+◌, ◌*◌, ◌/◌, ◌%◌, Bool, true, false, ◌&&◌, List, [], ◌∷◌, get_or, drop, eqb}

-- ---- a word of four bytes, and its bytes
abbrev pub word : ℕ → ℕ → ℕ → ℕ → ℕ
word b0 b1 b2 b3 = b0 + 256 * (b1 + 256 * (b2 + 256 * b3))

abbrev pub byte0 : ℕ → ℕ
byte0 x = x % 256

abbrev pub byte1 : ℕ → ℕ
byte1 x = x / 256 % 256

abbrev pub byte2 : ℕ → ℕ
byte2 x = x / 256 / 256 % 256

abbrev pub byte3 : ℕ → ℕ
byte3 x = x / 256 / 256 / 256 % 256

-- ---- two halves of 16 bits
abbrev pub halves : ℕ → ℕ → ℕ
halves l h = l + 65536 * h

abbrev pub low_half : ℕ → ℕ
low_half x = x % 65536

abbrev pub high_half : ℕ → ℕ
high_half x = x / 65536

-- ---- yes is 1, no is 0; all but 1 reads as no
abbrev pub bit_of : Bool → ℕ
bit_of true = 1
bit_of false = 0

abbrev pub flag_of : ℕ → Bool
flag_of x = eqb x 1

abbrev pub flags_word : Bool → Bool → Bool → Bool → ℕ
flags_word a b c d = word (bit_of a) (bit_of b) (bit_of c) (bit_of d)

abbrev pub flags_of : ℕ → List Bool
flags_of x = flag_of (byte0 x) ∷ flag_of (byte1 x) ∷ flag_of (byte2 x) ∷ flag_of (byte3 x) ∷ []

-- ---- a number of 64 bits as two words
abbrev pub low_of : ℕ → ℕ
low_of n = n % 4294967296

abbrev pub high_of : ℕ → ℕ
high_of n = n / 4294967296

abbrev pub wide_of : ℕ → ℕ → ℕ
wide_of l h = l + 4294967296 * h

-- ---- words as bytes
unfoldable pub bytes : List ℕ → List ℕ
bytes [] = []
bytes (x ∷ l) = byte0 x ∷ byte1 x ∷ byte2 x ∷ byte3 x ∷ bytes l

-- the word of the four bytes from i on; a byte that is not there reads as 0
abbrev pub word_at : List ℕ → ℕ → ℕ
word_at b i = word (get_or b i 0) (get_or b (i + 1) 0) (get_or b (i + 2) 0) (get_or b (i + 3) 0)

-- the first n words of bytes
unfoldable pub words : ℕ → List ℕ → List ℕ
words zero b = []
words (suc n) b = word_at b 0 ∷ words n (drop 4 b)

-- whether two lists are the same
unfoldable pub same_list : List ℕ → List ℕ → Bool
same_list [] [] = true
same_list [] (y ∷ r) = false
same_list (x ∷ l) [] = false
same_list (x ∷ l) (y ∷ r) = eqb x y && same_list l r
