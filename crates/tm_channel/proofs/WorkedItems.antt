-- Worked values of the receiver's definitions, computed.
use Rattle.std.proofs.Common.{◌≡◌, ◌<◌, ℕ, Bool, true, false, List, [], ◌∷◌, ◌++◌, refl, sym, ap, ◌∙◌, subst, arith, None, inl, inr}
use Rattle.std.specs.Prelude.{replicate}
use Rattle.std.proofs.Math.Bool.{xor}
use Rattle.std.proofs.lemmas.Bool.{cases_eq}
use Rattle.std.proofs.lemmas.List.Elements.{All-cons, All-nil}
use Rattle.tm_base.specs.Bits.{AreOctets, bits_of, low_bits}
use Rattle.tm_config.specs.Configuration.{Configuration, configuration_of, default_raw}
use Rattle.tm_config.specs.declared.values.OuterCode.TheVariants.{Rs16, Uncoded}
use Rattle.tm_config.specs.declared.values.Sought.TheVariants.{Find}
use Rattle.tm_gf256.specs.declared.basis.Basis.TheVariants.{Dual, Poly}
use Rattle.tm_gf256.specs.Dual.{dual_element, dual_octet, dual_bits, dual_bit, trace}
use Rattle.tm_gf256.specs.Field.{times, power, remainder, bit_product}
use Rattle.tm_gf256.specs.Poly.{value_at}
use Rattle.tm_codeblock.specs.Sequence.{sequence_bit}
use Rattle.tm_rs_code.specs.Code.{root, distance}
use Rattle.tm_rs_code.specs.Nearest.{IsCodewordOf}
use Rattle.tm_rs_code.proofs.DistanceLaw.{same_of_distance}
use Rattle.tm_rs_code.proofs.Numbers.{AreElements-replicate}
use Rattle.tm_rs_code.proofs.Register.{value_at-zeros}
use Rattle.tm_rs.specs.declared.answers.Answer.TheVariants.{Fixed, Beyond}
use Rattle.tm_sync.specs.Places.{wrong_bits, match_of, are_verified, place_at, places_from, places}
use Rattle.tm_sync.specs.Rescan.{place_here, places_after}
use Rattle.tm_codeblock.specs.ReceivedCodeblock.{codeblock_in, received_columns, frame_of, rules_of}
use Rattle.tm_codeblock.proofs.PlacesIn.{places_in-off}
use Rattle.tm_channel.specs.Items.{ItemValue, AreItems, AreItemsOf}
use Rattle.tm_channel.proofs.HasItems.{fixed-left}
use Rattle.tm_channel.specs.SentStream.{IsSent}

-- no outer code, frames of one octet, no randomizer, and one place bridged in a row
abbrev bare : Configuration
bare = record (configuration_of default_raw) {
  code = Uncoded;
  frame_length = 1;
  inner = None;
  randomize = false;
  repair = 0;
  limit = 1;
  fly = 1;
  keep = 64;
  ahead = 0;
}

-- the (255,223) code, with one codeword of 33 symbols, sent as their numbers
abbrev coded : Configuration
coded = record bare { code = Rs16; basis = Poly; repair = 1 }

-- two codewords, interleaved
abbrev interleaved_two : Configuration
interleaved_two = record coded { depth = 2; frame_length = 4 }

-- items where no place is looked for inside a codeblock
without : (c : Configuration) (bits : List Bool) (items : List ItemValue) → c.rescan ≡ false
    → AreItemsOf c bits (places (rules_of c) bits) items → AreItems c bits items
without c bits items off are = subst (λ fs. AreItemsOf c bits fs items) (sym (places_in-off c bits off)) are

-- a marker with two wrong bits right after a codeblock is bridged
row_bridged : AreItems bare (bits_of (0x1A ∷ 0xCF ∷ 0xFC ∷ 0x1D ∷ 0x7B ∷ 0x1A ∷ 0xCF ∷ 0xFC ∷ 0x1E ∷ 0x01 ∷ []))
    (record {
      found = record { place = 0; distance = 0; bridged = false; inverted = false };
      symbol = 0;
      answers = [];
      frame = 0x7B ∷ [];
    }
    ∷ record {
      found = record { place = 40; distance = 2; bridged = true; inverted = false };
      symbol = 0;
      answers = [];
      frame = 0x01 ∷ [];
    } ∷ [])
unfolding low_bits wrong_bits match_of are_verified place_at places_from codeblock_in received_columns frame_of
row_bridged = without bare _ _ refl (
  record { place = refl; words = []; nearest = tt; frame = refl },
  (record { place = refl; words = []; nearest = tt; frame = refl }, tt),
)

-- but not what is the inverted marker, where places are looked for inside codeblocks too
row_not_bridged : AreItems (record bare { rescan = true })
    (bits_of (0x1A ∷ 0xCF ∷ 0xFC ∷ 0x1D ∷ 0x7B ∷ 0xE5 ∷ 0x30 ∷ 0x03 ∷ 0xE2 ∷ 0x01 ∷ []))
    (record {
      found = record { place = 0; distance = 0; bridged = false; inverted = false };
      symbol = 0;
      answers = [];
      frame = 0x7B ∷ [];
    } ∷ [])
unfolding low_bits wrong_bits match_of are_verified place_at place_here places_after codeblock_in received_columns
    frame_of
row_not_bridged = (record { place = refl; words = []; nearest = tt; frame = refl }, tt)

-- an inverted marker, where either polarity is taken: the codeblock is complemented
row_inverted : AreItems (record bare { polarity = Find }) (bits_of (0xE5 ∷ 0x30 ∷ 0x03 ∷ 0xE2 ∷ 0x84 ∷ []))
    (record {
      found = record { place = 0; distance = 0; bridged = false; inverted = true };
      symbol = 0;
      answers = [];
      frame = 0x7B ∷ [];
    } ∷ [])
unfolding low_bits wrong_bits match_of are_verified place_at places_from codeblock_in received_columns frame_of
row_inverted = without (record bare { polarity = Find }) _ _ refl
    (record { place = refl; words = []; nearest = tt; frame = refl }, tt)

-- the randomizer's first octet is FF
row_randomized : AreItems (record bare { randomize = true }) (bits_of (0x1A ∷ 0xCF ∷ 0xFC ∷ 0x1D ∷ 0x84 ∷ []))
    (record {
      found = record { place = 0; distance = 0; bridged = false; inverted = false };
      symbol = 0;
      answers = [];
      frame = 0x7B ∷ [];
    } ∷ [])
unfolding low_bits wrong_bits match_of are_verified place_at places_from codeblock_in received_columns frame_of
    sequence_bit xor
row_randomized = without (record bare { randomize = true }) _ _ refl
    (record { place = refl; words = []; nearest = tt; frame = refl }, tt)

-- ---- with an outer code

-- the word of zeros is a codeword
zeros : IsCodewordOf 16 33 (replicate 33 0)
zeros =
    record { size = refl; elements = AreElements-replicate 33; codeword = λ k within. value_at-zeros 33 (root 16 k) }

-- one wrong symbol is repaired, and the frame is that of the codeword
row_fixed : AreItems coded (bits_of (0x1A ∷ 0xCF ∷ 0xFC ∷ 0x1D ∷ 0x07 ∷ replicate 32 0))
    (record {
      found = record { place = 0; distance = 0; bridged = false; inverted = false };
      symbol = 0;
      answers = Fixed 1 ∷ [];
      frame = 0 ∷ [];
    } ∷ [])
unfolding low_bits wrong_bits match_of are_verified place_at places_from codeblock_in received_columns frame_of
row_fixed = without coded _ _ refl (
  record {
    place = refl;
    words = replicate 33 0 ∷ [];
    nearest = (
      record {
        nearest = (zeros, refl, omega arith);
        left = fixed-left 1 (7 ∷ replicate 32 0) (replicate 33 0);
      },
      tt,
    );
    frame = refl;
  },
  tt,
)

-- a word that is no codeword
off : List ℕ
off = replicate 32 0 ++ 7 ∷ []

off-value : value_at off (root 16 0) ≡ 7
unfolding off power times remainder bit_product
off-value = refl

off-beyond : (c : List ℕ) → IsCodewordOf 16 33 c → 0 < distance c off
unfolding off
off-beyond c is = elim (cases_eq (distance c off) 0) [
  | inl none ↦
      let same : c ≡ off = same_of_distance c off is.size none in
      let value : value_at off (root 16 0) ≡ 0 = ap (λ (w : List ℕ). value_at w (root 16 0)) (sym same)
      ∙ is.codeword 0 (omega arith) in
      absurd (omega (arith, value, off-value))
  | inr some ↦ omega (arith, some)
]

-- with nothing repaired it is reported, and there is no frame
row_beyond : AreItems (record coded { repair = 0 }) (bits_of (0x1A ∷ 0xCF ∷ 0xFC ∷ 0x1D ∷ replicate 32 0 ++ 7 ∷ []))
    (record {
      found = record { place = 0; distance = 0; bridged = false; inverted = false };
      symbol = 0;
      answers = Beyond ∷ [];
      frame = [];
    } ∷ [])
unfolding low_bits wrong_bits match_of are_verified place_at places_from codeblock_in received_columns frame_of off
row_beyond = without (record coded { repair = 0 }) _ _ refl (
  record {
    place = refl;
    words = off ∷ [];
    nearest = (record { nearest = off-beyond; left = λ _. refl }, tt);
    frame = refl;
  },
  tt,
)

-- where what is left of it is passed, its data stands in the frame as it was received
row_passed : AreItems (record coded { repair = 0; pass_bad = true })
    (bits_of (0x1A ∷ 0xCF ∷ 0xFC ∷ 0x1D ∷ replicate 32 0 ++ 7 ∷ []))
    (record {
      found = record { place = 0; distance = 0; bridged = false; inverted = false };
      symbol = 0;
      answers = Beyond ∷ [];
      frame = 0 ∷ [];
    } ∷ [])
unfolding low_bits wrong_bits match_of are_verified place_at places_from codeblock_in received_columns frame_of off
row_passed = without (record coded { repair = 0; pass_bad = true }) _ _ refl (
  record {
    place = refl;
    words = off ∷ [];
    nearest = (record { nearest = off-beyond; left = λ _. refl }, tt);
    frame = refl;
  },
  tt,
)

-- ---- columns and frames

row_columns : received_columns interleaved_two (1 ∷ 2 ∷ 3 ∷ 4 ∷ []) ≡ (1 ∷ 3 ∷ []) ∷ (2 ∷ 4 ∷ []) ∷ []
unfolding received_columns
row_columns = refl

-- of each codeword the data alone stands in the frame, here two symbols
row_frame : frame_of interleaved_two [] ((1 ∷ 3 ∷ 9 ∷ []) ∷ (2 ∷ 4 ∷ 9 ∷ []) ∷ []) ≡ 1 ∷ 2 ∷ 3 ∷ 4 ∷ []
unfolding frame_of
row_frame = refl

-- in the dual basis the element 1 is sent as 7B
row_dual : received_columns (record coded { basis = Dual }) (0x7B ∷ []) ≡ (1 ∷ []) ∷ []
unfolding received_columns dual_element dual_octet dual_bits dual_bit trace times power remainder bit_product
row_dual = refl

-- ---- a stream that was sent

-- a unit, another whose marker has two wrong bits and whose codeblock one, and a gap of three bits
row_sent : IsSent bare (bits_of (0x1A ∷ 0xCF ∷ 0xFC ∷ 0x1D ∷ 0x7B ∷ 0x1A ∷ 0xCF ∷ 0xFC ∷ 0x1E ∷ 0x03 ∷ [])
    ++ (false ∷ true ∷ false ∷ []))
    (record {
      received = record {
        gap = [];
        marker = bits_of (0x1A ∷ 0xCF ∷ 0xFC ∷ 0x1D ∷ []);
        block = bits_of (0x7B ∷ []);
      };
      frame = 0x7B ∷ [];
    }
    ∷ record {
      received = record {
        gap = [];
        marker = bits_of (0x1A ∷ 0xCF ∷ 0xFC ∷ 0x1E ∷ []);
        block = bits_of (0x03 ∷ []);
      };
      frame = 0x01 ∷ [];
    } ∷ [])
    (false ∷ true ∷ false ∷ [])
unfolding low_bits wrong_bits match_of are_verified
row_sent = record {
  marked = record {
    parts = refl;
    are_entries = (
      record {
        marker = refl;
        block = refl;
        gap = λ q within. absurd (omega arith);
        waits = tt;
        bridged = tt;
        verified = refl;
      },
      (
        record {
          marker = refl;
          block = refl;
          gap = λ q within. absurd (omega arith);
          waits = tt;
          bridged = (refl, omega arith);
          verified = refl;
        },
        (λ q within room. absurd (omega arith), inl (omega arith)),
      ),
    );
  };
  frames = ((refl, one-octet 0x7B (omega arith)), ((refl, one-octet 0x01 (omega arith)), tt));
  alone = tt;
}
  where
    one-octet : (x : ℕ) → x < 256 → AreOctets (x ∷ [])
    one-octet x small = All-cons (λ octet. octet < 256) x [] small (All-nil (λ octet. octet < 256))
