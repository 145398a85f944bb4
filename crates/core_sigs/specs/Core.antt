-- The core signatures.
use Rattle.std.specs.Prelude.{ℕ, List, [], ◌∷◌, ◌++◌, codes}

-- lines, each with its end
abbrev pub lines_text : List (List ℕ) → List ℕ
lines_text [] = []
lines_text (line ∷ lines) = line ++ 10 ∷ lines_text lines

-- what every project has before its own signatures
unfoldable pub core : List ℕ
core = lines_text (
    codes "interface _Each[out Elem]" ∷
    codes "  def each: () { (Elem) -> void } -> untyped" ∷
    codes "end" ∷
    codes "class BasicObject" ∷
    codes "  def initialize: () -> void" ∷
    codes "  def ==: (untyped) -> bool" ∷
    codes "  def !=: (untyped) -> bool" ∷
    codes "  def !: () -> bool" ∷
    codes "end" ∷
    codes "module Kernel : BasicObject" ∷
    codes "  def class: () -> class" ∷
    codes "  def nil?: () -> bool" ∷
    codes "  def is_a?: (Module) -> bool" ∷
    codes "  def kind_of?: (Module) -> bool" ∷
    codes "  def instance_of?: (Module) -> bool" ∷
    codes "  def respond_to?: (Symbol | String) -> bool" ∷
    codes "  def ===: (untyped) -> bool" ∷
    codes "  def to_s: () -> String" ∷
    codes "  def inspect: () -> String" ∷
    codes "  def hash: () -> Integer" ∷
    codes "  def freeze: () -> self" ∷
    codes "  def dup: () -> self" ∷
    codes "  def tap: () { (self) -> void } -> self" ∷
    codes "  def then: [X] () { (self) -> X } -> X" ∷
    codes "  def send: (Symbol | String, *untyped) -> untyped" ∷
    codes "  def extend: (*Module) -> self" ∷
    codes "  private" ∷
    codes "  def puts: (*untyped) -> nil" ∷
    codes "  def print: (*untyped) -> nil" ∷
    codes "  def p: (*untyped) -> untyped" ∷
    codes "  def raise: (?(Class | Exception | String), *untyped) -> bot" ∷
    codes "  def require: (String) -> bool" ∷
    codes "  def require_relative: (String) -> bool" ∷
    codes "  def loop: () { () -> void } -> untyped" ∷
    codes "  def lambda: () { () -> untyped } -> Proc" ∷
    codes "  def format: (String, *untyped) -> String" ∷
    codes "  def block_given?: () -> bool" ∷
    codes "  def Integer: (untyped) -> Integer" ∷
    codes "end" ∷
    codes "class Object < BasicObject" ∷
    codes "  include Kernel" ∷
    codes "end" ∷
    codes "class Module" ∷
    codes "  def name: () -> String?" ∷
    codes "  def attr_reader: (*(Symbol | String)) -> Array[Symbol]" ∷
    codes "  def attr_writer: (*(Symbol | String)) -> Array[Symbol]" ∷
    codes "  def attr_accessor: (*(Symbol | String)) -> Array[Symbol]" ∷
    codes "  def include: (*Module) -> self" ∷
    codes "  def prepend: (*Module) -> self" ∷
    codes "  def private: (*untyped) -> untyped" ∷
    codes "  def public: (*untyped) -> untyped" ∷
    codes "  def module_function: (*untyped) -> untyped" ∷
    codes "end" ∷
    codes "class Class < Module" ∷
    codes "end" ∷
    codes "module Comparable" ∷
    codes "  def <: (untyped) -> bool" ∷
    codes "  def <=: (untyped) -> bool" ∷
    codes "  def >: (untyped) -> bool" ∷
    codes "  def >=: (untyped) -> bool" ∷
    codes "end" ∷
    codes "class NilClass" ∷
    codes "  def to_a: () -> Array[untyped]" ∷
    codes "end" ∷
    codes "class TrueClass" ∷
    codes "end" ∷
    codes "class FalseClass" ∷
    codes "end" ∷
    codes "class Numeric" ∷
    codes "  include Comparable" ∷
    codes "end" ∷
    codes "class Float < Numeric" ∷
    codes "  def to_i: () -> Integer" ∷
    codes "end" ∷
    codes "class Integer < Numeric" ∷
    codes "  def +: (Integer) -> Integer" ∷
    codes "  def -: (Integer) -> Integer" ∷
    codes "  def *: (Integer) -> Integer" ∷
    codes "  def /: (Integer) -> Integer" ∷
    codes "  def %: (Integer) -> Integer" ∷
    codes "  def -@: () -> Integer" ∷
    codes "  def <=>: (untyped) -> Integer?" ∷
    codes "  def to_s: (?Integer) -> String" ∷
    codes "  def to_i: () -> Integer" ∷
    codes "  def zero?: () -> bool" ∷
    codes "  def times: () { (Integer) -> void } -> Integer" ∷
    codes "end" ∷
    codes "class String" ∷
    codes "  include Comparable" ∷
    codes "  def +: (String) -> String" ∷
    codes "  def *: (Integer) -> String" ∷
    codes "  def <<: (String) -> self" ∷
    codes "  def =~: (Regexp) -> Integer?" ∷
    codes "  def []: (Integer | Range[Integer] | String) -> String?" ∷
    codes "  def size: () -> Integer" ∷
    codes "  def length: () -> Integer" ∷
    codes "  def empty?: () -> bool" ∷
    codes "  def upcase: () -> String" ∷
    codes "  def downcase: () -> String" ∷
    codes "  def strip: () -> String" ∷
    codes "  def split: (?(String | Regexp)) -> Array[String]" ∷
    codes "  def include?: (String) -> bool" ∷
    codes "  def start_with?: (*String) -> bool" ∷
    codes "  def to_sym: () -> Symbol" ∷
    codes "  def to_i: () -> Integer" ∷
    codes "end" ∷
    codes "class Symbol" ∷
    codes "  def to_proc: () -> Proc" ∷
    codes "  def size: () -> Integer" ∷
    codes "end" ∷
    codes "class Regexp" ∷
    codes "  def match?: (String?) -> bool" ∷
    codes "end" ∷
    codes "class Proc" ∷
    codes "  def call: (*untyped) -> untyped" ∷
    codes "end" ∷
    codes "module Enumerable[unchecked out Elem] : _Each[Elem]" ∷
    codes "  def map: [U] () { (Elem) -> U } -> Array[U]" ∷
    codes "  def flat_map: [U] () { (Elem) -> Array[U] } -> Array[U]" ∷
    codes "  def select: () { (Elem) -> untyped } -> Array[Elem]" ∷
    codes "  def reject: () { (Elem) -> untyped } -> Array[Elem]" ∷
    codes "  def find: () { (Elem) -> untyped } -> Elem?" ∷
    codes "  def each_with_index: () { (Elem, Integer) -> void } -> self" ∷
    codes "  def each_with_object: [A] (A) { (Elem, A) -> void } -> A" ∷
    codes "  def inject: [A] (A) { (A, Elem) -> A } -> A | (Symbol) -> untyped" ∷
    codes "  def include?: (untyped) -> bool" ∷
    codes "  def first: () -> Elem? | (Integer) -> Array[Elem]" ∷
    codes "  def to_a: () -> Array[Elem]" ∷
    codes "  def sort: () -> Array[Elem]" ∷
    codes "  def sort_by: () { (Elem) -> untyped } -> Array[Elem]" ∷
    codes "  def min: () -> Elem?" ∷
    codes "  def max: () -> Elem?" ∷
    codes "  def sum: () -> Elem | [U] () { (Elem) -> U } -> U" ∷
    codes "  def count: () ?{ (Elem) -> untyped } -> Integer" ∷
    codes "  def any?: () ?{ (Elem) -> untyped } -> bool" ∷
    codes "  def all?: () ?{ (Elem) -> untyped } -> bool" ∷
    codes "  def group_by: [K] () { (Elem) -> K } -> Hash[K, Array[Elem]]" ∷
    codes "end" ∷
    codes "class Range[out Elem]" ∷
    codes "  include Enumerable[Elem]" ∷
    codes "  def each: () { (Elem) -> void } -> self" ∷
    codes "end" ∷
    codes "class Array[unchecked out Elem]" ∷
    codes "  include Enumerable[Elem]" ∷
    codes "  def each: () { (Elem) -> void } -> self" ∷
    codes "  def []: (Integer) -> Elem?" ∷
    codes "  def []=: (Integer, Elem) -> Elem" ∷
    codes "  def <<: (Elem) -> self" ∷
    codes "  def push: (*Elem) -> self" ∷
    codes "  def pop: () -> Elem?" ∷
    codes "  def last: () -> Elem?" ∷
    codes "  def +: [U] (Array[U]) -> Array[Elem | U]" ∷
    codes "  def size: () -> Integer" ∷
    codes "  def empty?: () -> bool" ∷
    codes "  def join: (?String) -> String" ∷
    codes "  def reverse: () -> Array[Elem]" ∷
    codes "end" ∷
    codes "class Hash[unchecked out K, unchecked out V]" ∷
    codes "  include Enumerable[[K, V]]" ∷
    codes "  def each: () { ([K, V]) -> void } -> self" ∷
    codes "  def []: (K) -> V?" ∷
    codes "  def []=: (K, V) -> V" ∷
    codes "  def fetch: (K) -> V" ∷
    codes "  def key?: (K) -> bool" ∷
    codes "  def keys: () -> Array[K]" ∷
    codes "  def values: () -> Array[V]" ∷
    codes "  def size: () -> Integer" ∷
    codes "  def empty?: () -> bool" ∷
    codes "end" ∷
    codes "class Exception" ∷
    codes "  def initialize: (?String) -> void" ∷
    codes "  def message: () -> String" ∷
    codes "end" ∷
    codes "class StandardError < Exception" ∷
    codes "end" ∷
    codes "class RuntimeError < StandardError" ∷
    codes "end" ∷
    codes "class ArgumentError < StandardError" ∷
    codes "end" ∷
    codes "class TypeError < StandardError" ∷
    codes "end" ∷
    codes "class KeyError < StandardError" ∷
    codes "end" ∷ [])
