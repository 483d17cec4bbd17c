-- The field of 256 elements of CCSDS 131.0-B, Reed-Solomon Coding. An element is a number below
-- 256, read as a polynomial over bits: bit k is the coefficient of alpha^k, where alpha is the
-- element 2. Of a larger number a product reads the low eight bits.
use Rattle.std.specs.Prelude.{ℕ, zero, suc, ◌+◌, ◌*◌, ◌%◌, ◌^◌, bit_xor}
use Rattle.std.specs.Int.{bit_at}

-- the product of polynomials over bits: the sum of a x^i over the i below k at which b has a 1
unfoldable pub bit_product : ℕ → ℕ → ℕ → ℕ
bit_product zero a b = 0
bit_product (suc k) a b = bit_xor (bit_product k a b) (bit_at b k * (a * 2 ^ k))

-- the remainder by F(x) = x^8 + x^7 + x^2 + x + 1, the number 0x187, of a polynomial of degree
-- below 8 + k
unfoldable pub remainder : ℕ → ℕ → ℕ
remainder zero p = p
remainder (suc k) p = remainder k (bit_xor p (bit_at p (8 + k) * (0x187 * 2 ^ k)))

-- the sum of two elements
abbrev pub plus : ℕ → ℕ → ℕ
plus a b = bit_xor a b

-- the product of two elements
unfoldable pub times : ℕ → ℕ → ℕ
times a b = remainder 7 (bit_product 8 (a % 256) (b % 256))

-- the power of an element
unfoldable pub power : ℕ → ℕ → ℕ
power a zero = 1
power a (suc k) = times (power a k) a

-- how many elements other than 0 there are, and powers of alpha that differ
abbrev pub group_order : ℕ
group_order = 255
