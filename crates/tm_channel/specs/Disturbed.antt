-- Octets in which disturbed units of a configuration stand, with markers that verify others, a gap,
-- a bridged marker and inverted units.
use Rattle.std.specs.Prelude.{ℕ, Bool, true, false, List, [], ◌∷◌, ◌++◌, None, replicate}
use Rattle.tm_base.specs.Bits.{bits_of}
use Rattle.tm_base.specs.Marker.{marker_size}
use Rattle.tm_config.specs.Configuration.{Configuration, configuration_of, default_raw}
use Rattle.tm_config.specs.declared.values.OuterCode.TheVariants.{Rs8}
use Rattle.tm_config.specs.declared.values.Sought.TheVariants.{Find}
use Rattle.tm_gf256.specs.declared.basis.Basis.TheVariants.{Poly}
use Rattle.tm_sync.specs.Bits.{complement, marker_bits}
use Rattle.tm_channel.specs.SentStream.{SentUnit}

-- Frames of one octet, after which 16 check symbols stand: up to eight wrong symbols of a codeblock
-- are repaired. Markers with one wrong bit match, and inverted ones; one in a row is bridged. A
-- further marker verifies a place that is searched for. Codeblocks are looked for inside others too.
abbrev pub link : Configuration
link = record (configuration_of default_raw) {
  code = Rs8;
  frame_length = 1;
  inner = None;
  randomize = false;
  basis = Poly;
  tolerance = 1;
  repair = 8;
  limit = 106;
  fly = 1;
  keep = 64;
  ahead = 0;
  polarity = Find;
  verify = 1;
  rescan = true;
}

-- a unit with a wrong bit in its marker and one in its third symbol; one that verifies it; one with
-- zeros for its marker; after a bit that is no part of a unit one that is inverted; one that
-- verifies that; and seven bits more
abbrev pub octets : List ℕ
octets = 0x1B ∷ 0xCF ∷ 0xFC ∷ 0x1D ∷ 0 ∷ 0 ∷ 1 ∷ replicate 14 0
    ++ (0x1A ∷ 0xCF ∷ 0xFC ∷ 0x1D ∷ replicate 38 0
    ++ (0xF2 ∷ 0x98 ∷ 0x01 ∷ 0xF1 ∷ 0x7F ∷ replicate 16 0xFF
    ++ (0xF2 ∷ 0x98 ∷ 0x01 ∷ 0xF1 ∷ 0x7F ∷ replicate 17 0xFF)))

-- the frame of each, which is sent with check symbols that are 0 as well
abbrev pub frame : List ℕ
frame = 0 ∷ []

abbrev pub units : List SentUnit
units =
    record {
      received = record {
        gap = [];
        marker = bits_of (0x1B ∷ 0xCF ∷ 0xFC ∷ 0x1D ∷ []);
        block = bits_of (0 ∷ 0 ∷ 1 ∷ replicate 14 0);
      };
      frame = frame;
    }
    ∷ record {
      received = record { gap = []; marker = marker_bits; block = replicate 136 false };
      frame = frame;
    }
    ∷ record {
      received = record {
        gap = [];
        marker = replicate marker_size false;
        block = replicate 136 false;
      };
      frame = frame;
    }
    ∷ record {
      received = record {
        gap = true ∷ [];
        marker = complement marker_bits;
        block = replicate 136 true;
      };
      frame = frame;
    }
    ∷ record {
      received = record {
        gap = [];
        marker = complement marker_bits;
        block = replicate 136 true;
      };
      frame = frame;
    }
    ∷ []

abbrev pub last : List Bool
last = replicate 7 true
